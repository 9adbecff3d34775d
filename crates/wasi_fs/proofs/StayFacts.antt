-- No call makes a node something else.
use Rattle.std.proofs.Common.{ℕ, List, Option, Result, Ok, Err, IfOk, Bool, true, false, not}
use Rattle.wasi_clocks.specs.declared.datetimes.Datetime.{Datetime}
use Rattle.wasi_clocks.specs.declared.wall_times.WallTime.{WallTime}
use Rattle.wasi_fs_types.specs.declared.descriptor.NewTimestamp.{NewTimestamp}
use Rattle.wasi_fs_types.specs.declared.flags.PathFlags.{PathFlags}
use Rattle.wasi_fs_types.specs.declared.error_code.ErrorCode.{ErrorCode}
use Rattle.wasi_fs_types.specs.declared.error_code.ErrorCode.TheVariants as code
use Rattle.wasi_fs_nodes.specs.Bodies.{with_times}
use Rattle.wasi_fs_nodes.specs.Changes.{new_directory, new_link, made, linked, unlinked, directory_removed, renamed, sized}
use Rattle.wasi_fs_nodes.specs.Nodes.{is_directory}
use Rattle.wasi_fs_nodes.specs.Outcome.{then, unless}
use Rattle.wasi_fs_nodes.specs.Shape.{KindsStay}
use Rattle.wasi_fs_nodes.specs.declared.node.Node.{Node}
use Rattle.wasi_fs_paths.specs.Components.{begins_with_slash}
use Rattle.wasi_fs_paths.specs.Paths.{Place, Inside, Named, resolved, found}
use Rattle.wasi_fs.specs.Calls.{there, there_or_new, size_set, times_for, times_set, times_set_at, made_at, directory_created, symlink_made, linked_at, link_made, as_writable_directories, directory_removed_at, removed, file_unlinked_at, file_unlinked, renamed_at, node_renamed}
use Rattle.wasi_fs.specs.Flags.{follows, may_write, is_read_only}
use Rattle.wasi_fs.specs.Times.{time_of}
use Rattle.wasi_fs.specs.Trees.{perms_in, node_in, as_file, as_writable_directory}
use Rattle.wasi_fs.specs.declared.descriptor.Descriptor.{Descriptor}

if_unless : (P : List Node → Type 0) (b : Bool) (refusal : ErrorCode) (r : Result (List Node) ErrorCode) → IfOk r P → IfOk (unless b refusal r) P
if_unless P true refusal r h = tt
if_unless P false refusal r h = h

if_then : {A : Type 0} (P : List Node → Type 0) (r : Result A ErrorCode) (f : A → Result (List Node) ErrorCode) → ((a : A) → IfOk (f a) P) → IfOk (then r f) P
if_then P (Ok a) f h = h a
if_then P (Err refusal) f h = tt

-- THE LAWS OF THE NODES that this stands on
abbrev pub MadeStays : Type 0
MadeStays = (nodes : List Node) (dir : ℕ) (name : List ℕ) (node : Node) → IfOk (made nodes dir name node) (KindsStay nodes)

abbrev pub LinkedStays : Type 0
LinkedStays = (nodes : List Node) (dir : ℕ) (name : List ℕ) (node : ℕ) → IfOk (linked nodes dir name node) (KindsStay nodes)

abbrev pub UnlinkedStays : Type 0
UnlinkedStays = (nodes : List Node) (dir : ℕ) (name : List ℕ) → IfOk (unlinked nodes dir name) (KindsStay nodes)

abbrev pub RemovedStays : Type 0
RemovedStays = (nodes : List Node) (dir : ℕ) (name : List ℕ) → IfOk (directory_removed nodes dir name) (KindsStay nodes)

abbrev pub RenamedStays : Type 0
RenamedStays = (below : ℕ → ℕ → Bool) (nodes : List Node) (dir : ℕ) (name : List ℕ) (to : ℕ) (to_name : List ℕ) → IfOk (renamed below nodes dir name to to_name) (KindsStay nodes)

abbrev pub SizedStays : Type 0
SizedStays = (nodes : List Node) (file size : ℕ) → IfOk (sized nodes file size) (KindsStay nodes)

abbrev pub TimesStay : Type 0
TimesStay = (nodes : List Node) (node : ℕ) (access modification : Option Datetime) → KindsStay nodes (with_times nodes node access modification)

pub size_stays : SizedStays → (nodes : List Node) (at : Descriptor) (size : ℕ) → IfOk (size_set nodes at size) (KindsStay nodes)
size_stays law nodes at size = if_then (KindsStay nodes) (as_file at) _ (λ file.
    if_unless (KindsStay nodes) (is_read_only file.perms) code.NotPermitted (unless (not (may_write file.mode)) code.NotPermitted (sized nodes file.node size))
    (if_unless (KindsStay nodes) (not (may_write file.mode)) code.NotPermitted (sized nodes file.node size) (law nodes file.node size)))

pub times_stay : TimesStay → (nodes : List Node) (at : Descriptor) (access modified : NewTimestamp) (now : WallTime) → IfOk (times_set nodes at access modified now) (KindsStay nodes)
times_stay law nodes at access modified now = if_then (KindsStay nodes) (times_for access modified now) _ (λ times.
    if_unless (KindsStay nodes) (is_read_only (perms_in at)) code.NotPermitted (Ok (with_times nodes (node_in at) times.0 times.1)) (law nodes (node_in at) times.0 times.1))

pub times_stay_at : TimesStay → (nodes : List Node) (at : Descriptor) (flags : PathFlags) (path : List ℕ) (access modified : NewTimestamp) (now : WallTime)
    → IfOk (times_set_at nodes at flags path access modified now) (KindsStay nodes)
times_stay_at law nodes at flags path access modified now = if_then (KindsStay nodes) (times_for access modified now) _ (λ times.
    if_then (KindsStay nodes) (as_writable_directory at) _ (λ dir. if_then (KindsStay nodes) (found nodes dir.node (follows flags) path) _ (λ n. law nodes n times.0 times.1)))

made_by_place : MadeStays → (nodes : List Node) (node : ℕ → Node) (place : Place) → IfOk (made_at nodes node place) (KindsStay nodes)
made_by_place law nodes node (Inside dir) = tt
made_by_place law nodes node (Named dir name n) = law nodes dir name (node dir)

made_by_path : MadeStays → (nodes : List Node) (start : ℕ) (path : List ℕ) (node : ℕ → Node) → IfOk (then (resolved nodes start there_or_new path) (made_at nodes node)) (KindsStay nodes)
made_by_path law nodes start path node = if_then (KindsStay nodes) (resolved nodes start there_or_new path) (made_at nodes node) (made_by_place law nodes node)

pub directory_stays : MadeStays → (nodes : List Node) (at : Descriptor) (path : List ℕ) (now : WallTime) → IfOk (directory_created nodes at path now) (KindsStay nodes)
directory_stays law nodes at path now = if_then (KindsStay nodes) (as_writable_directory at) _ (λ dir. made_by_path law nodes dir.node path (λ in_dir. new_directory in_dir (time_of now)))

pub symlink_stays : MadeStays → (nodes : List Node) (at : Descriptor) (text path : List ℕ) (now : WallTime) → IfOk (symlink_made nodes at text path now) (KindsStay nodes)
symlink_stays law nodes at text path now = if_then (KindsStay nodes) (as_writable_directory at) _ (λ dir.
    if_unless (KindsStay nodes) (begins_with_slash text) code.NotPermitted _ (made_by_path law nodes dir.node path (λ in_dir. new_link text (time_of now))))

linked_by_place : LinkedStays → (nodes : List Node) (node : ℕ) (place : Place) → IfOk (linked_at nodes node place) (KindsStay nodes)
linked_by_place law nodes node (Inside dir) = if_unless (KindsStay nodes) (is_directory nodes node) code.NotPermitted (Err code.Exist) tt
linked_by_place law nodes node (Named dir name n) = law nodes dir name node

pub link_stays : LinkedStays → (nodes : List Node) (at : Descriptor) (flags : PathFlags) (path : List ℕ) (to : Descriptor) (to_path : List ℕ) → IfOk (link_made nodes at flags path to to_path) (KindsStay nodes)
link_stays law nodes at flags path to to_path = if_then (KindsStay nodes) (as_writable_directories at to) _ (λ dirs.
    if_unless (KindsStay nodes) (follows flags) code.Invalid _ (if_then (KindsStay nodes) (found nodes dirs.0.node false path) _ (λ node.
    if_then (KindsStay nodes) (resolved nodes dirs.1.node there_or_new to_path) (linked_at nodes node) (linked_by_place law nodes node))))

removed_by_place : RemovedStays → (nodes : List Node) (place : Place) → IfOk (directory_removed_at nodes place) (KindsStay nodes)
removed_by_place law nodes (Inside dir) = tt
removed_by_place law nodes (Named dir name n) = law nodes dir name

pub remove_stays : RemovedStays → (nodes : List Node) (at : Descriptor) (path : List ℕ) → IfOk (removed nodes at path) (KindsStay nodes)
remove_stays law nodes at path = if_then (KindsStay nodes) (as_writable_directory at) _ (λ dir.
    if_then (KindsStay nodes) (resolved nodes dir.node there path) (directory_removed_at nodes) (removed_by_place law nodes))

unlinked_by_place : UnlinkedStays → (nodes : List Node) (place : Place) → IfOk (file_unlinked_at nodes place) (KindsStay nodes)
unlinked_by_place law nodes (Inside dir) = tt
unlinked_by_place law nodes (Named dir name n) = law nodes dir name

pub unlink_stays : UnlinkedStays → (nodes : List Node) (at : Descriptor) (path : List ℕ) → IfOk (file_unlinked nodes at path) (KindsStay nodes)
unlink_stays law nodes at path = if_then (KindsStay nodes) (as_writable_directory at) _ (λ dir.
    if_then (KindsStay nodes) (resolved nodes dir.node there path) (file_unlinked_at nodes) (unlinked_by_place law nodes))

renamed_by_place : RenamedStays → (below : ℕ → ℕ → Bool) (nodes : List Node) (from to : Place) → IfOk (renamed_at below nodes from to) (KindsStay nodes)
renamed_by_place law below nodes (Inside dir) to = tt
renamed_by_place law below nodes (Named from name n) (Inside to) = tt
renamed_by_place law below nodes (Named from name n) (Named to to_name target) = law below nodes from name to to_name

pub rename_stays : RenamedStays → (below : ℕ → ℕ → Bool) (nodes : List Node) (at : Descriptor) (path : List ℕ) (to : Descriptor) (to_path : List ℕ) → IfOk (node_renamed below nodes at path to to_path) (KindsStay nodes)
rename_stays law below nodes at path to to_path = if_then (KindsStay nodes) (as_writable_directories at to) _ (λ dirs.
    if_then (KindsStay nodes) (resolved nodes dirs.0.node there path) _ (λ from.
    if_then (KindsStay nodes) (resolved nodes dirs.1.node there_or_new to_path) (renamed_at below nodes from) (renamed_by_place law below nodes from)))
