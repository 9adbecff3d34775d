-- Whatever a call changes, each descriptor of its tree stays one.
use Rattle.std.proofs.Common.{List, Result, Ok, Err, IfOk}
use Rattle.wasi_fs_types.specs.declared.error_code.ErrorCode.{ErrorCode}
use Rattle.wasi_fs_nodes.specs.Shape.{KindsStay}
use Rattle.wasi_fs_nodes.specs.declared.node.Node.{Node}
use Rattle.wasi_fs_nodes.specs.declared.node.Kind.TheVariants as kind
use Rattle.wasi_fs.specs.Trees.{TreeState, with_nodes, IsOf, KeepsDescriptors}
use Rattle.wasi_fs.specs.declared.descriptor.Descriptor.{Descriptor}
use Rattle.wasi_fs.specs.declared.descriptor.Descriptor.TheVariants as descriptor
use Rattle.wasi_fs_calls.specs.Rule.{Outcome, looks, changes, opens, IsMadeIn}
use Rattle.wasi_fs_calls.specs.declared.answers.DescriptorTold.{DescriptorTold}

kept_by_kinds : (tree : TreeState) (nodes : List Node) → KindsStay tree.nodes nodes → KeepsDescriptors tree (with_nodes tree nodes)
kept_by_kinds tree nodes k (descriptor.File file) h = record { number = h.number; made = k file.node kind.File h.made }
kept_by_kinds tree nodes k (descriptor.Dir dir) h = record { number = h.number; made = k dir.node kind.Directory h.made }

pub looks_kept : {A : Type 0} (tell : A → DescriptorTold) (tree : TreeState) (outcome : Result A ErrorCode) → KeepsDescriptors tree (looks tell tree outcome).left
looks_kept tell tree (Ok a) at h = h
looks_kept tell tree (Err code) at h = h

pub changes_kept : (tree : TreeState) (outcome : Result (List Node) ErrorCode) → IfOk outcome (KindsStay tree.nodes) → KeepsDescriptors tree (changes tree outcome).left
changes_kept tree (Ok nodes) k = kept_by_kinds tree nodes k
changes_kept tree (Err code) k = λ at h. h

pub opens_kept : (tree : TreeState) (outcome : Result (Descriptor × List Node) ErrorCode) → IfOk outcome (λ it. KindsStay tree.nodes it.1) → KeepsDescriptors tree (opens tree outcome).left
opens_kept tree (Ok it) k = kept_by_kinds tree it.1 k
opens_kept tree (Err code) k = λ at h. h

-- what is made is of the tree
abbrev pub IsMade : Outcome → Type 0
IsMade it = IsMadeIn it.left it.answer

pub looks_made : {A : Type 0} (tell : A → DescriptorTold) (tree : TreeState) (outcome : Result A ErrorCode) → IsMade (looks tell tree outcome)
looks_made tell tree (Ok a) = tt
looks_made tell tree (Err code) = tt

pub changes_made : (tree : TreeState) (outcome : Result (List Node) ErrorCode) → IsMade (changes tree outcome)
changes_made tree (Ok nodes) = tt
changes_made tree (Err code) = tt

pub opens_made : (tree : TreeState) (outcome : Result (Descriptor × List Node) ErrorCode) → IfOk outcome (λ it. IsOf (with_nodes tree it.1) it.0) → IsMade (opens tree outcome)
opens_made tree (Ok it) of_tree = of_tree
opens_made tree (Err code) of_tree = tt
