-- What the calls answer that change nothing, each with its refusals in their order.
use Rattle.std.specs.Prelude.{ℕ, List, Result, Ok, Bool, false, ◌&&◌, eqb, option_map}
use Rattle.std.specs.Option.{ok_or}
use Rattle.wasi_fs_types.specs.declared.error_code.ErrorCode.{ErrorCode}
use Rattle.wasi_fs_types.specs.declared.error_code.ErrorCode.TheVariants as code
use Rattle.wasi_fs_types.specs.declared.descriptor.DescriptorStat.{DescriptorStat}
use Rattle.wasi_fs_types.specs.declared.descriptor.DescriptorType.{DescriptorType}
use Rattle.wasi_fs_types.specs.declared.descriptor.DescriptorType.TheVariants as type
use Rattle.wasi_fs_types.specs.declared.descriptor.MetadataHashValue.{MetadataHashValue}
use Rattle.wasi_fs_types.specs.declared.flags.DescriptorFlags.{DescriptorFlags}
use Rattle.wasi_fs_types.specs.declared.flags.PathFlags.{PathFlags}
use Rattle.wasi_fs_nodes.specs.Nodes.{text_at}
use Rattle.wasi_fs_nodes.specs.Outcome.{then}
use Rattle.wasi_fs_nodes.specs.Stats.{stat_at}
use Rattle.wasi_fs_nodes.specs.declared.node.Node.{Node}
use Rattle.wasi_fs_nodes.specs.declared.node.Kind.{Kind}
use Rattle.wasi_fs_nodes.specs.declared.node.Kind.TheVariants as kind
use Rattle.wasi_fs_nodes.specs.declared.stats.Stat.{Stat}
use Rattle.wasi_fs_paths.specs.Paths.{found}
use Rattle.wasi_fs.specs.Flags.{follows, flags_of_mode, flags_of_perms}
use Rattle.wasi_fs.specs.Trees.{TreeState, tree_in, node_in, as_file, as_directory}
use Rattle.wasi_fs.specs.declared.descriptor.Descriptor.{Descriptor}
use Rattle.wasi_fs.specs.declared.descriptor.Descriptor.TheVariants as descriptor

-- the number of the node that a path names below a descriptor
abbrev pub found_at : List Node → Descriptor → Bool → List ℕ → Result ℕ ErrorCode
found_at nodes at follow path = then (as_directory at) (λ dir. found nodes dir.node follow path)

-- ADVISE: a file is asked
abbrev pub advised : Descriptor → Result (Unit {0}) ErrorCode
advised at = then (as_file at) (λ file. Ok tt)

-- GET-FLAGS
abbrev pub flags_in : Descriptor → DescriptorFlags
flags_in (descriptor.File file) = flags_of_mode file.mode
flags_in (descriptor.Dir dir) = flags_of_perms dir.perms

-- GET-TYPE
abbrev pub type_in : Descriptor → DescriptorType
type_in (descriptor.File file) = type.RegularFile
type_in (descriptor.Dir dir) = type.Directory

-- STAT, STAT-AT
abbrev pub type_of : Kind → DescriptorType
type_of kind.File = type.RegularFile
type_of kind.Directory = type.Directory
type_of kind.Link = type.SymbolicLink

abbrev pub stat_told : Stat → DescriptorStat
stat_told stat = record {
  type_ = type_of stat.kind;
  link_count = stat.links;
  size = stat.size;
  data_access_timestamp = stat.times.access;
  data_modification_timestamp = stat.times.modification;
  status_change_timestamp = stat.times.status_change;
}

-- each node that was made has one
abbrev pub stat_of : List Node → ℕ → Result DescriptorStat ErrorCode
stat_of nodes n = ok_or (option_map stat_told (stat_at nodes n)) code.NoEntry

abbrev pub stat_found : List Node → Descriptor → PathFlags → List ℕ → Result DescriptorStat ErrorCode
stat_found nodes at flags path = then (found_at nodes at (follows flags) path) (stat_of nodes)

-- READLINK-AT: what is no link is not valid
abbrev pub link_read : List Node → Descriptor → List ℕ → Result (List ℕ) ErrorCode
link_read nodes at path = then (found_at nodes at false path) (λ n. ok_or (text_at nodes n) code.Invalid)

-- IS-SAME-OBJECT
abbrev pub is_same : Descriptor → Descriptor → Bool
is_same at other = eqb (tree_in at) (tree_in other) && eqb (node_in at) (node_in other)

-- METADATA-HASH, METADATA-HASH-AT
abbrev pub hash_of : TreeState → ℕ → MetadataHashValue
hash_of tree n = record { lower = n; upper = tree.number }

abbrev pub hash_found : TreeState → Descriptor → PathFlags → List ℕ → Result MetadataHashValue ErrorCode
hash_found tree at flags path = then (found_at tree.nodes at (follows flags) path) (λ n. Ok (hash_of tree n))
