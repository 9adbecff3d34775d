use Rattle.wasi_fs.specs.Calls.{times_set}
use Rattle.wasi_fs.proofs.KeptFacts.{always_kept}
use Rattle.wasi_fs.proofs.tree.Tree.set_times.Goals as goal

pub returns-clause-kept : goal.returns-clause-kept
returns-clause-kept c =
    always_kept c.args.self.now c.retime.new.self c.retime.result (times_set c.args.self.now.nodes c.args.at.now c.args.access c.args.modified c.args.now) c.retime.ensures
    (c.calls_keep_kinds.ensures.times c.args.self.now.nodes c.args.at.now c.args.access c.args.modified c.args.now)
