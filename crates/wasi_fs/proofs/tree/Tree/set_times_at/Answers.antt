use Rattle.wasi_fs.specs.Calls.{times_set_at}
use Rattle.wasi_fs.proofs.KeptFacts.{always_kept}
use Rattle.wasi_fs.proofs.tree.Tree.set_times_at.Goals as goal

pub returns-clause-kept : goal.returns-clause-kept
returns-clause-kept c =
    always_kept c.args.self.now c.retime_at.new.self c.retime_at.result (times_set_at c.args.self.now.nodes c.args.at.now c.args.flags c.args.path.now c.args.access c.args.modified c.args.now) c.retime_at.ensures
    (c.calls_keep_kinds.ensures.times_at c.args.self.now.nodes c.args.at.now c.args.flags c.args.path.now c.args.access c.args.modified c.args.now)
