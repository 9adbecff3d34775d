-- A descriptor's node was made.
use Rattle.std.proofs.Common.{◌≡◌, ℕ, zero, suc, ◌<◌, List, [], ◌∷◌, length, Some, arith}
use Rattle.wasi_fs_nodes.specs.Nodes.{kind_at}
use Rattle.wasi_fs_nodes.specs.declared.node.Node.{Node}
use Rattle.wasi_fs_nodes.specs.declared.node.Kind.{Kind}
use Rattle.wasi_fs.specs.Trees.{TreeState, IsOf, node_in}
use Rattle.wasi_fs.specs.declared.descriptor.Descriptor.{Descriptor}
use Rattle.wasi_fs.specs.declared.descriptor.Descriptor.TheVariants as descriptor

of_kind : (nodes : List Node) (n : ℕ) (k : Kind) → kind_at nodes n ≡ Some k → n < length nodes
of_kind [] zero k h = cc
of_kind [] (suc n) k h = cc
of_kind (x ∷ nodes) zero k h = omega arith
of_kind (x ∷ nodes) (suc n) k h = omega (arith, of_kind nodes n k h)

pub node_made : (tree : TreeState) (at : Descriptor) → IsOf tree at → node_in at < length tree.nodes
node_made tree (descriptor.File file) h = of_kind tree.nodes file.node _ h.made
node_made tree (descriptor.Dir dir) h = of_kind tree.nodes dir.node _ h.made
