-- What the calls leave that change nodes, each with its refusals in their order. Every call resolves its paths after the
-- tests of its arguments alone, and the first path before the second one.
use Rattle.std.specs.Prelude.{ℕ, List, Option, Some, None, Result, Ok, Err, Bool, false, true, not, eqb}
use Rattle.wasi_clocks.specs.declared.datetimes.Datetime.{Datetime}
use Rattle.wasi_clocks.specs.declared.wall_times.WallTime.{WallTime}
use Rattle.wasi_fs_types.specs.declared.error_code.ErrorCode.{ErrorCode}
use Rattle.wasi_fs_types.specs.declared.error_code.ErrorCode.TheVariants as code
use Rattle.wasi_fs_types.specs.declared.descriptor.NewTimestamp.{NewTimestamp}
use Rattle.wasi_fs_types.specs.declared.flags.PathFlags.{PathFlags}
use Rattle.wasi_fs_nodes.specs.Bodies.{with_times}
use Rattle.wasi_fs_nodes.specs.Changes.{made, new_file, new_directory, new_link, linked, unlinked, directory_removed, renamed, sized}
use Rattle.wasi_fs_nodes.specs.Nodes.{is_directory}
use Rattle.wasi_fs_nodes.specs.Outcome.{then, unless}
use Rattle.wasi_fs_nodes.specs.declared.node.Node.{Node}
use Rattle.wasi_fs_paths.specs.Components.{begins_with_slash, ends_with_slash}
use Rattle.wasi_fs_paths.specs.Paths.{Place, Inside, Named, resolved, found}
use Rattle.wasi_fs_paths.specs.declared.place.Wish.{Wish}
use Rattle.wasi_fs.specs.Flags.{follows, may_write, is_read_only}
use Rattle.wasi_fs.specs.Times.{time_of, new_time}
use Rattle.wasi_fs.specs.Trees.{node_in, perms_in, as_file, as_directory, as_writable_directory}
use Rattle.wasi_fs.specs.declared.descriptor.Descriptor.{Descriptor}
use Rattle.wasi_fs.specs.declared.descriptor.Dir.{Dir}

-- the last name has to be there, and a link is itself meant
abbrev pub there : Wish
there = record { follow = false; may_make = false }

-- the last name may be absent
abbrev pub there_or_new : Wish
there_or_new = record { follow = false; may_make = true }

-- THE LINES THAT FILL A TREE: TREEDIR, TREEFILE, TREELINK
-- a new node at a place; which one may depend on the directory that it stands in
abbrev pub added_at : List Node → Bool → (ℕ → Node) → Place → Result (List Node) ErrorCode
added_at nodes slash node (Inside dir) = Err code.Exist
added_at nodes slash node (Named dir name (Some n)) = Err code.Exist
added_at nodes slash node (Named dir name None) = unless slash code.Invalid (made nodes dir name (node dir))

abbrev pub added : List Node → List ℕ → (ℕ → Node) → Result (List Node) ErrorCode
added nodes path node = then (resolved nodes 0 there_or_new path) (added_at nodes (ends_with_slash path) node)

abbrev pub directory_added : List Node → List ℕ → WallTime → Result (List Node) ErrorCode
directory_added nodes path now = added nodes path (λ dir. new_directory dir (time_of now))

abbrev pub file_added : List Node → List ℕ → List ℕ → WallTime → Result (List Node) ErrorCode
file_added nodes path bytes now = added nodes path (λ dir. new_file bytes (time_of now))

abbrev pub link_added : List Node → List ℕ → List ℕ → WallTime → Result (List Node) ErrorCode
link_added nodes path text now = added nodes path (λ dir. new_link text (time_of now))

-- .. and whether it would be added, with the code where not
abbrev pub allowed : {A : Type 0} → Result A ErrorCode → Result (Unit {0}) ErrorCode
allowed (Ok a) = Ok tt
allowed (Err code) = Err code

-- SET-SIZE
abbrev pub size_set : List Node → Descriptor → ℕ → Result (List Node) ErrorCode
size_set nodes at size = then (as_file at) (λ file.
    unless (is_read_only file.perms) code.NotPermitted
    (unless (not (may_write file.mode)) code.NotPermitted
    (sized nodes file.node size)))

-- SET-TIMES, SET-TIMES-AT: a time that does not fit comes before every other refusal
abbrev pub times_for : NewTimestamp → NewTimestamp → WallTime → Result (Option Datetime × Option Datetime) ErrorCode
times_for access modified now = then (new_time access now) (λ a. then (new_time modified now) (λ m. Ok (a, m)))

abbrev pub times_set : List Node → Descriptor → NewTimestamp → NewTimestamp → WallTime → Result (List Node) ErrorCode
times_set nodes at access modified now = then (times_for access modified now) (λ times.
    unless (is_read_only (perms_in at)) code.NotPermitted
    (Ok (with_times nodes (node_in at) times.0 times.1)))

abbrev pub times_set_at : List Node → Descriptor → PathFlags → List ℕ → NewTimestamp → NewTimestamp → WallTime → Result (List Node) ErrorCode
times_set_at nodes at flags path access modified now = then (times_for access modified now) (λ times.
    then (as_writable_directory at) (λ dir.
    then (found nodes dir.node (follows flags) path) (λ n. Ok (with_times nodes n times.0 times.1))))

-- CREATE-DIRECTORY-AT, SYMLINK-AT
abbrev pub made_at : List Node → (ℕ → Node) → Place → Result (List Node) ErrorCode
made_at nodes node (Inside dir) = Err code.Exist
made_at nodes node (Named dir name n) = made nodes dir name (node dir)

abbrev pub directory_created : List Node → Descriptor → List ℕ → WallTime → Result (List Node) ErrorCode
directory_created nodes at path now = then (as_writable_directory at) (λ dir.
    then (resolved nodes dir.node there_or_new path) (made_at nodes (λ in_dir. new_directory in_dir (time_of now))))

abbrev pub symlink_made : List Node → Descriptor → List ℕ → List ℕ → WallTime → Result (List Node) ErrorCode
symlink_made nodes at text path now = then (as_writable_directory at) (λ dir.
    unless (begins_with_slash text) code.NotPermitted
    (then (resolved nodes dir.node there_or_new path) (made_at nodes (λ in_dir. new_link text (time_of now)))))

-- TWO DESCRIPTORS: the kinds of both, then the perms of both, then whether they are of one tree
abbrev pub as_writable_directories : Descriptor → Descriptor → Result (Dir × Dir) ErrorCode
as_writable_directories at to = then (as_directory at) (λ dir. then (as_directory to) (λ to_dir.
    unless (is_read_only dir.perms) code.NotPermitted
    (unless (is_read_only to_dir.perms) code.NotPermitted
    (unless (not (eqb dir.tree to_dir.tree)) code.Invalid
    (Ok (dir, to_dir))))))

-- LINK-AT
abbrev pub linked_at : List Node → ℕ → Place → Result (List Node) ErrorCode
linked_at nodes node (Inside dir) = unless (is_directory nodes node) code.NotPermitted (Err code.Exist)
linked_at nodes node (Named dir name n) = linked nodes dir name node

abbrev pub link_made : List Node → Descriptor → PathFlags → List ℕ → Descriptor → List ℕ → Result (List Node) ErrorCode
link_made nodes at flags path to to_path = then (as_writable_directories at to) (λ dirs.
    unless (follows flags) code.Invalid
    (then (found nodes dirs.0.node false path) (λ node.
    then (resolved nodes dirs.1.node there_or_new to_path) (linked_at nodes node))))

-- REMOVE-DIRECTORY-AT
abbrev pub directory_removed_at : List Node → Place → Result (List Node) ErrorCode
directory_removed_at nodes (Inside dir) = Err code.Invalid
directory_removed_at nodes (Named dir name n) = directory_removed nodes dir name

abbrev pub removed : List Node → Descriptor → List ℕ → Result (List Node) ErrorCode
removed nodes at path = then (as_writable_directory at) (λ dir.
    then (resolved nodes dir.node there path) (directory_removed_at nodes))

-- UNLINK-FILE-AT
abbrev pub file_unlinked_at : List Node → Place → Result (List Node) ErrorCode
file_unlinked_at nodes (Inside dir) = Err code.IsDirectory
file_unlinked_at nodes (Named dir name n) = unlinked nodes dir name

abbrev pub file_unlinked : List Node → Descriptor → List ℕ → Result (List Node) ErrorCode
file_unlinked nodes at path = then (as_writable_directory at) (λ dir.
    then (resolved nodes dir.node there path) (file_unlinked_at nodes))

-- RENAME-AT: `below` tells whether one directory lies below another
abbrev pub renamed_at : (ℕ → ℕ → Bool) → List Node → Place → Place → Result (List Node) ErrorCode
renamed_at below nodes (Inside dir) to = Err code.Invalid
renamed_at below nodes (Named from name n) (Inside to) = Err code.Invalid
renamed_at below nodes (Named from name n) (Named to to_name target) = renamed below nodes from name to to_name

abbrev pub node_renamed : (ℕ → ℕ → Bool) → List Node → Descriptor → List ℕ → Descriptor → List ℕ → Result (List Node) ErrorCode
node_renamed below nodes at path to to_path = then (as_writable_directories at to) (λ dirs.
    then (resolved nodes dirs.0.node there path) (λ from.
    then (resolved nodes dirs.1.node there_or_new to_path) (renamed_at below nodes from)))
