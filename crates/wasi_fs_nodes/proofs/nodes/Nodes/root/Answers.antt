use Rattle.std.proofs.Common.{subst}
use Rattle.wasi_fs_nodes.specs.Shape.{IsSound}
use Rattle.wasi_fs_nodes.proofs.nodes.Nodes.root.Goals as goal

pub returns-clause-sound : goal.returns-clause-sound
returns-clause-sound c = subst IsSound c.self.view_is c.self.invariant.shape
