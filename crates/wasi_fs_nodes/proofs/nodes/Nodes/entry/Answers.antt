use Rattle.std.proofs.Common.{subst}
use Rattle.wasi_fs_nodes.specs.Shape.{NamesNodes}
use Rattle.wasi_fs_nodes.proofs.NodeFacts.{made_entry}
use Rattle.wasi_fs_nodes.proofs.nodes.Nodes.entry.Goals as goal

pub returns-clause-made : goal.returns-clause-made
returns-clause-made c = made_entry c.args.self.now c.args.dir c.args.name.now c.find.result (subst NamesNodes c.self.view_is c.self.invariant.shape.named) c.find.ensures
