-- A tree of files, and the descriptors that are of it.
use Rattle.std.specs.Prelude.{◌≡◌, ℕ, Bool, true, false, nat_eq, ◌&&◌, ◌+◌, ◌-◌, ◌^◌, min, List, Option, Some, None, Result, Ok, Err}
use Rattle.wasi_base.specs.declared.io_kind.IoKind.{IoKind}
use Rattle.wasi_fs_types.specs.declared.error_code.ErrorCode.{ErrorCode}
use Rattle.wasi_fs_types.specs.declared.error_code.ErrorCode.TheVariants as code
use Rattle.wasi_fs_types.specs.declared.descriptor.FsPerms.{FsPerms}
use Rattle.wasi_fs_nodes.specs.Nodes.{kind_at}
use Rattle.wasi_fs_nodes.specs.Outcome.{then, unless}
use Rattle.wasi_fs_nodes.specs.declared.node.Node.{Node}
use Rattle.wasi_fs_nodes.specs.declared.node.Kind.{Kind}
use Rattle.wasi_fs_nodes.specs.declared.node.Kind.TheVariants as kind
use Rattle.wasi_fs.specs.Flags.{is_read_only}
use Rattle.wasi_fs.specs.declared.descriptor.File.{File}
use Rattle.wasi_fs.specs.declared.descriptor.Dir.{Dir}
use Rattle.wasi_fs.specs.declared.descriptor.Descriptor.{Descriptor}
use Rattle.wasi_fs.specs.declared.descriptor.Descriptor.TheVariants as descriptor

-- A TREE: its number among the trees, its nodes, the fault that the next call on data meets, and how many were met
pub record TreeState : Type 0 where
  pub number : ℕ
  pub nodes : List Node
  pub planned : Option IoKind
  pub faults : ℕ

abbrev pub with_nodes : TreeState → List Node → TreeState
with_nodes tree nodes = record { number = tree.number; nodes = nodes; planned = tree.planned; faults = tree.faults }

-- one more, up to the greatest number that is counted
abbrev pub risen : ℕ → ℕ
risen n = min (n + 1) (2 ^ 64 - 1)

-- after a planned fault was met
abbrev pub after_fault : TreeState → TreeState
after_fault tree = record { number = tree.number; nodes = tree.nodes; planned = None; faults = risen tree.faults }

-- WHAT A DESCRIPTOR HOLDS
abbrev pub tree_in : Descriptor → ℕ
tree_in (descriptor.File file) = file.tree
tree_in (descriptor.Dir dir) = dir.tree

abbrev pub node_in : Descriptor → ℕ
node_in (descriptor.File file) = file.node
node_in (descriptor.Dir dir) = dir.node

abbrev pub perms_in : Descriptor → FsPerms
perms_in (descriptor.File file) = file.perms
perms_in (descriptor.Dir dir) = dir.perms

-- A FILE OR A DIRECTORY OF THE TREE: it has the tree's number, and a node that was made there as such
pub record IsFileOf (tree : TreeState) (file : File) : Type 0 where
  pub number : file.tree ≡ tree.number
  pub made : kind_at tree.nodes file.node ≡ Some kind.File

pub record IsDirOf (tree : TreeState) (dir : Dir) : Type 0 where
  pub number : dir.tree ≡ tree.number
  pub made : kind_at tree.nodes dir.node ≡ Some kind.Directory

abbrev pub IsOf : TreeState → Descriptor → Type 0
IsOf tree (descriptor.File file) = IsFileOf tree file
IsOf tree (descriptor.Dir dir) = IsDirOf tree dir

-- .. which can be told
abbrev pub is_kind : Kind → Option Kind → Bool
is_kind kind.File (Some kind.File) = true
is_kind kind.Directory (Some kind.Directory) = true
is_kind kind.Link (Some kind.Link) = true
is_kind one other = false

abbrev pub holds : TreeState → Descriptor → Bool
holds tree (descriptor.File file) = nat_eq file.tree tree.number && is_kind kind.File (kind_at tree.nodes file.node)
holds tree (descriptor.Dir dir) = nat_eq dir.tree tree.number && is_kind kind.Directory (kind_at tree.nodes dir.node)

-- a call's second descriptor may be of another tree
abbrev pub IsOfIfHere : TreeState → Descriptor → Type 0
IsOfIfHere tree at = tree_in at ≡ tree.number → IsOf tree at

-- each descriptor of the tree stays one
abbrev pub KeepsDescriptors : TreeState → TreeState → Type 0
KeepsDescriptors old new = (at : Descriptor) → IsOf old at → IsOf new at

-- THE KIND THAT A CALL ASKS FOR
abbrev pub as_directory : Descriptor → Result Dir ErrorCode
as_directory (descriptor.File file) = Err code.NotDirectory
as_directory (descriptor.Dir dir) = Ok dir

abbrev pub as_file : Descriptor → Result File ErrorCode
as_file (descriptor.File file) = Ok file
as_file (descriptor.Dir dir) = Err code.BadDescriptor

-- .. and leave to change what is below it
abbrev pub as_writable_directory : Descriptor → Result Dir ErrorCode
as_writable_directory at = then (as_directory at) (λ dir. unless (is_read_only dir.perms) code.NotPermitted (Ok dir))
