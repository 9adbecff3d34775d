-- The names of a directory, as they are listed.
use Rattle.std.specs.Prelude.{ℕ, List, [], ◌∷◌, Option, Some, None, Result, Ok, Err, ◌≡◌, IsUtf8}
use Rattle.std.specs.Prelude.{◌≢◌, map}
use Rattle.wasi_fs_nodes.specs.Names.{IsAscending}
use Rattle.wasi_base.specs.declared.io_kind.IoKind.{IoKind}
use Rattle.wasi_fs_types.specs.ErrorCode.{code_of_kind}
use Rattle.wasi_fs_types.specs.declared.error_code.ErrorCode.{ErrorCode}
use Rattle.wasi_fs_types.specs.declared.error_code.ErrorCode.TheVariants as code
use Rattle.wasi_fs_nodes.specs.declared.store_error.StoreError.{StoreError}
use Rattle.wasi_fs_nodes.specs.declared.store_error.StoreError.TheVariants as store
use Rattle.wasi_fs_types.specs.declared.descriptor.DescriptorType.{DescriptorType}
use Rattle.wasi_fs_types.specs.declared.descriptor.DescriptorType.TheVariants as type
use Rattle.wasi_fs_nodes.specs.Nodes.{kind_at, names_at}
use Rattle.wasi_fs_nodes.specs.declared.node.Node.{Node}
use Rattle.wasi_fs_nodes.specs.declared.node.Kind.{Kind}
use Rattle.wasi_fs.specs.LookUps.{type_of}
use Rattle.wasi_fs.specs.Trees.{TreeState, after_fault}
use Rattle.wasi_fs.specs.declared.descriptor.Dir.{Dir}
use Rattle.wasi_fs.specs.declared.entries.DirectoryEntry.{DirectoryEntry}

-- each node that an entry names was made
abbrev pub type_of_node : Option Kind → DescriptorType
type_of_node None = type.Unknown
type_of_node (Some kind) = type_of kind

-- the entries of a directory, by its names and their nodes
abbrev pub entries_told : List Node → List (List ℕ × ℕ) → List DirectoryEntry
entries_told nodes [] = []
entries_told nodes (e ∷ names) = record { type_ = type_of_node (kind_at nodes e.1); name = e.0 } ∷ entries_told nodes names

abbrev pub Ascend : List DirectoryEntry → Type 0
Ascend entries = IsAscending (map (λ (entry : DirectoryEntry). entry.name) entries)

-- the type of no entry is unknown
abbrev pub AreKnown : List DirectoryEntry → Type 0
AreKnown [] = Unit {0}
AreKnown (entry ∷ entries) = (entry.type_ ≢ type.Unknown) × AreKnown entries

abbrev pub listed_unless : Option IoKind → TreeState → Dir → Result (List DirectoryEntry) ErrorCode × TreeState
listed_unless (Some kind) tree dir = (Err (code_of_kind kind), after_fault tree)
listed_unless None tree dir = (Ok (entries_told tree.nodes (names_at tree.nodes dir.node)), tree)

-- THE LISTING: refused only by a planned fault
abbrev pub listed : TreeState → Dir → Result (List DirectoryEntry) ErrorCode × TreeState
listed tree dir = listed_unless tree.planned tree dir

-- an entry of a name in bytes: refused with one code, exactly where they are no UTF-8
abbrev pub IsMapped : List ℕ → DescriptorType → Result DirectoryEntry StoreError → Type 0
IsMapped name type (Ok entry) = (entry ≡ record { type_ = type; name = name }) × IsUtf8 name
IsMapped name type (Err (store.Code refusal)) = (refusal ≡ code.IllegalByteSequence) × (¬ (IsUtf8 name))
IsMapped name type (Err store.OutOfMemory) = IsUtf8 name
