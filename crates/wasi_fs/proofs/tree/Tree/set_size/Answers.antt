use Rattle.wasi_fs.specs.Calls.{size_set}
use Rattle.wasi_fs.proofs.KeptFacts.{left_kept}
use Rattle.wasi_fs.proofs.tree.Tree.set_size.Goals as goal

pub returns-clause-kept : goal.returns-clause-kept
returns-clause-kept c =
    left_kept c.args.self.now c.resize.new.self c.resize.result (size_set c.args.self.now.nodes c.args.at.now c.args.size) c.resize.ensures
    (c.calls_keep_kinds.ensures.size c.args.self.now.nodes c.args.at.now c.args.size)
