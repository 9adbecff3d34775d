use Rattle.wasi_fs.specs.Calls.{added}
use Rattle.wasi_fs.specs.Making.{node_for}
use Rattle.wasi_fs.proofs.KeptFacts.{left_kept, added_stay}
use Rattle.wasi_fs.proofs.tree.Tree.add.Goals as goal

pub returns-clause-kept : goal.returns-clause-kept
returns-clause-kept c =
    left_kept c.args.self.now c.change.new.self c.change.result (added c.args.self.now.nodes c.args.path.now (node_for c.args.new c.args.time)) c.change.ensures
    (added_stay c.kinds_stay.ensures.made c.args.self.now.nodes c.args.path.now (node_for c.args.new c.args.time))
