-- A call that is refused leaves its tree as it was.
use Rattle.std.proofs.Common.{◌≡◌, true, List, Result, Ok, Err, refl}
use Rattle.wasi_fs_types.specs.declared.error_code.ErrorCode.{ErrorCode}
use Rattle.wasi_fs_nodes.specs.declared.node.Node.{Node}
use Rattle.wasi_fs.specs.Trees.{TreeState}
use Rattle.wasi_fs.specs.declared.descriptor.Descriptor.{Descriptor}
use Rattle.wasi_fs_calls.specs.Rule.{Outcome, looks, changes, opens, is_refusal}
use Rattle.wasi_fs_calls.specs.declared.answers.DescriptorTold.{DescriptorTold}

abbrev pub LeavesRefused : TreeState → Outcome → Type 0
LeavesRefused tree it = is_refusal it.answer ≡ true → it.left ≡ tree

pub looks_refused : {A : Type 0} (tell : A → DescriptorTold) (tree : TreeState) (outcome : Result A ErrorCode) → LeavesRefused tree (looks tell tree outcome)
looks_refused tell tree (Ok a) refused = refl
looks_refused tell tree (Err code) refused = refl

pub changes_refused : (tree : TreeState) (outcome : Result (List Node) ErrorCode) → LeavesRefused tree (changes tree outcome)
changes_refused tree (Ok nodes) refused = absurd (cc)
changes_refused tree (Err code) refused = refl

pub opens_refused : (tree : TreeState) (outcome : Result (Descriptor × List Node) ErrorCode) → LeavesRefused tree (opens tree outcome)
opens_refused tree (Ok it) refused = absurd (cc)
opens_refused tree (Err code) refused = refl
