-- What an opening answers and leaves, with its refusals in their order.
use Rattle.std.specs.Prelude.{ℕ, List, [], length, Option, Some, None, Result, Ok, Err, Bool, cond, ◌&&◌, ◌||◌}
use Rattle.wasi_clocks.specs.declared.datetimes.Datetime.{Datetime}
use Rattle.wasi_clocks.specs.declared.wall_times.WallTime.{WallTime}
use Rattle.wasi_fs_types.specs.declared.error_code.ErrorCode.{ErrorCode}
use Rattle.wasi_fs_types.specs.declared.error_code.ErrorCode.TheVariants as code
use Rattle.wasi_fs_types.specs.declared.flags.DescriptorFlags.{DescriptorFlags}
use Rattle.wasi_fs_types.specs.declared.flags.OpenFlags.{OpenFlags}
use Rattle.wasi_fs_types.specs.declared.flags.PathFlags.{PathFlags}
use Rattle.wasi_fs_nodes.specs.Bodies.{with_size}
use Rattle.wasi_fs_nodes.specs.Changes.{made, new_file}
use Rattle.wasi_fs_nodes.specs.Nodes.{kind_at}
use Rattle.wasi_fs_nodes.specs.Outcome.{then, unless}
use Rattle.wasi_fs_nodes.specs.declared.node.Node.{Node}
use Rattle.wasi_fs_nodes.specs.declared.node.Kind.{Kind}
use Rattle.wasi_fs_nodes.specs.declared.node.Kind.TheVariants as kind
use Rattle.wasi_fs_paths.specs.Components.{ends_with_slash}
use Rattle.wasi_fs_paths.specs.Paths.{Place, Inside, Named, resolved}
use Rattle.wasi_fs.specs.Flags.{follows, creates, wants_directory, is_exclusive, truncates, wants_write, wants_sync, wants_to_mutate, mode_for, is_read_only}
use Rattle.wasi_fs.specs.Times.{time_of}
use Rattle.wasi_fs.specs.Trees.{as_directory}
use Rattle.wasi_fs.specs.declared.descriptor.Descriptor.{Descriptor}
use Rattle.wasi_fs.specs.declared.descriptor.Descriptor.TheVariants as descriptor
use Rattle.wasi_fs.specs.declared.opening.Opening.{Opening}

-- it may change the tree, or opens to do so
abbrev pub asks_to_change : Opening → Bool
asks_to_change opening = creates opening.how || truncates opening.how || wants_write opening.flags || wants_to_mutate opening.flags

-- what is opened has to be new
abbrev pub wants_new : Opening → Bool
wants_new opening = creates opening.how && is_exclusive opening.how

-- THE REFUSALS THAT NEED NO PATH
abbrev pub well_asked : Opening → Result (Unit {0}) ErrorCode
well_asked opening =
    unless (is_read_only opening.from.perms && asks_to_change opening) code.NotPermitted
    (unless (creates opening.how && wants_directory opening.how) code.Invalid
    (unless (wants_sync opening.flags) code.Unsupported
    (Ok tt)))

-- a descriptor of a node, with the perms of the directory that it was opened from
abbrev pub file_opened : Opening → ℕ → Descriptor
file_opened opening n = descriptor.File (record { tree = opening.from.tree; node = n; perms = opening.from.perms; mode = mode_for opening.flags; blocking = opening.blocking })

abbrev pub directory_opened : Opening → ℕ → Descriptor
directory_opened opening n = descriptor.Dir (record { tree = opening.from.tree; node = n; perms = opening.from.perms; mode = mode_for opening.flags; blocking = opening.blocking })

abbrev pub directory_opened_or_refused : Opening → ℕ → Result Descriptor ErrorCode
directory_opened_or_refused opening n =
    unless (wants_new opening) code.Exist
    (unless (wants_write opening.flags || truncates opening.how) code.IsDirectory
    (Ok (directory_opened opening n)))

abbrev pub emptied_if : Bool → List Node → ℕ → List Node
emptied_if truncates nodes n = cond truncates (with_size nodes n 0) nodes

-- what is there is opened: a link never, and a new one is refused where it has to be new
abbrev pub opened_kind : List Node → Opening → ℕ → Option Kind → Result (Descriptor × List Node) ErrorCode
opened_kind nodes opening n None = Err code.NoEntry
opened_kind nodes opening n (Some kind.Link) = Err code.Loop
opened_kind nodes opening n (Some kind.File) =
    unless (wants_new opening) code.Exist
    (unless (wants_directory opening.how) code.NotDirectory
    (Ok (file_opened opening n, emptied_if (truncates opening.how) nodes n)))
opened_kind nodes opening n (Some kind.Directory) =
    then (directory_opened_or_refused opening n) (λ opened. Ok (opened, nodes))

abbrev pub opened_node : List Node → Opening → ℕ → Result (Descriptor × List Node) ErrorCode
opened_node nodes opening n = opened_kind nodes opening n (kind_at nodes n)

-- a last name that is absent becomes a new file; without leave to make one its path was refused
abbrev pub opened_at : List Node → Opening → Bool → Option Datetime → Place → Result (Descriptor × List Node) ErrorCode
opened_at nodes opening slash time (Inside dir) = opened_node nodes opening dir
opened_at nodes opening slash time (Named dir name (Some n)) = opened_node nodes opening n
opened_at nodes opening slash time (Named dir name None) =
    unless slash code.IsDirectory
    (then (made nodes dir name (new_file [] time)) (λ after. Ok (file_opened opening (length nodes), after)))

abbrev pub opened_from : List Node → Opening → PathFlags → List ℕ → WallTime → Result (Descriptor × List Node) ErrorCode
opened_from nodes opening path_flags path now = then (well_asked opening) (λ _.
    then (resolved nodes opening.from.node (record { follow = follows path_flags; may_make = creates opening.how }) path)
    (opened_at nodes opening (ends_with_slash path) (time_of now)))

-- OPEN-AT
abbrev pub opened : List Node → Descriptor → PathFlags → List ℕ → OpenFlags → DescriptorFlags → WallTime → Bool → Result (Descriptor × List Node) ErrorCode
opened nodes at path_flags path how flags now blocking = then (as_directory at) (λ dir.
    opened_from nodes (record { from = dir; how = how; flags = flags; blocking = blocking }) path_flags path now)
