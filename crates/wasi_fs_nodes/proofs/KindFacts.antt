-- No change makes a node something else.
use Rattle.std.proofs.Common.{◌≡◌, ℕ, List, length, Option, Some, None, is_some, Result, Ok, Err, IfOk, Bool, true, false, cond, not, ◌&&◌, ◌∙◌}
use Rattle.wasi_clocks.specs.declared.datetimes.Datetime.{Datetime}
use Rattle.wasi_fs_types.specs.declared.error_code.ErrorCode.{ErrorCode}
use Rattle.wasi_fs_types.specs.declared.error_code.ErrorCode.TheVariants as code
use Rattle.wasi_fs_nodes.specs.Names.{has_no_names}
use Rattle.wasi_fs_nodes.specs.Nodes.{kind_of, is_directory, names_at, entry_at, bytes_in, bytes_at, is_removed}
use Rattle.wasi_fs_nodes.specs.Bodies.{with_body, body_with_name, body_with_other, body_with_parent, body_without_name, body_with_bytes, body_resized, with_name, with_new, with_size, with_times, without_name, with_parent}
use Rattle.wasi_fs_nodes.specs.Outcome.{then, unless, unless_some}
use Rattle.wasi_fs_nodes.specs.Shape.{KindsStay}
use Rattle.wasi_fs_nodes.specs.Changes.{made, may_make, linked, unlinked, unlinked_entry, directory_removed, removed_entry, put_at, moved, is_node, target_refusal, renamed, renamed_onto, limits_of, sized, nodes_after, wrote}
use Rattle.wasi_fs_nodes.specs.Writes.{passed, place_in, Write, Fault, Refusal, Nothing, Bytes, write_from}
use Rattle.wasi_fs_nodes.specs.declared.at.At.{At}
use Rattle.wasi_fs_nodes.specs.declared.node.Node.{Node}
use Rattle.wasi_fs_nodes.specs.declared.node.Body.{Body}
use Rattle.wasi_fs_nodes.proofs.ShapeFacts.{kind_at-with_body, kind_push, kind_at-with_times, keeps_name, keeps_other, keeps_taken, keeps_bytes, keeps_resized, parent_kind}

if_unless : (P : List Node → Type 0) (b : Bool) (refusal : ErrorCode) (r : Result (List Node) ErrorCode) → IfOk r P → IfOk (unless b refusal r) P
if_unless P true refusal r h = tt
if_unless P false refusal r h = h

if_unless_some : (P : List Node → Type 0) (o : Option ErrorCode) (r : Result (List Node) ErrorCode) → IfOk r P → IfOk (unless_some o r) P
if_unless_some P None r h = h
if_unless_some P (Some refusal) r h = tt

if_then : {A : Type 0} (P : List Node → Type 0) (r : Result A ErrorCode) (f : A → Result (List Node) ErrorCode) → ((a : A) → IfOk (f a) P) → IfOk (then r f) P
if_then P (Ok a) f h = h a
if_then P (Err refusal) f h = tt

stay : (f : Body → Body) → ((b : Body) → kind_of (f b) ≡ kind_of b) → (nodes : List Node) (i : ℕ) → KindsStay nodes (with_body f nodes i)
stay f k nodes i n kind h = kind_at-with_body f k nodes i n ∙ h

both : (a b c : List Node) → KindsStay a b → KindsStay b c → KindsStay a c
both a b c h k n kind e = k n kind (h n kind e)

stay_new : (nodes : List Node) (dir : ℕ) (name : List ℕ) (node : Node) → KindsStay nodes (with_new nodes dir name node)
stay_new nodes dir name node n kind h =
    kind_push (with_name nodes dir name (length nodes)) node n kind (stay (body_with_name name (length nodes)) (keeps_name name (length nodes)).kind nodes dir n kind h)

pub made_stay : (nodes : List Node) (dir : ℕ) (name : List ℕ) (node : Node) → IfOk (made nodes dir name node) (KindsStay nodes)
made_stay nodes dir name node =
    if_then (KindsStay nodes) (may_make nodes dir name (length (bytes_in node.body))) (λ _. Ok (with_new nodes dir name node)) (λ _. stay_new nodes dir name node)

pub linked_stay : (nodes : List Node) (dir : ℕ) (name : List ℕ) (node : ℕ) → IfOk (linked nodes dir name node) (KindsStay nodes)
linked_stay nodes dir name node =
    if_unless (KindsStay nodes) (is_directory nodes node) code.NotPermitted _
    (if_unless (KindsStay nodes) (is_some (entry_at nodes dir name)) code.Exist _
    (if_unless (KindsStay nodes) (is_removed nodes dir) code.NoEntry _ (stay (body_with_name name node) (keeps_name name node).kind nodes dir)))

taken_stay : (nodes : List Node) (dir : ℕ) (name : List ℕ) → KindsStay nodes (without_name nodes dir name)
taken_stay nodes dir name = stay (body_without_name name) (keeps_taken name).kind nodes dir

pub unlinked_stay : (nodes : List Node) (dir : ℕ) (name : List ℕ) → IfOk (unlinked nodes dir name) (KindsStay nodes)
unlinked_stay nodes dir name = by_entry (entry_at nodes dir name)
  where
    by_entry : (o : Option ℕ) → IfOk (unlinked_entry nodes dir name o) (KindsStay nodes)
    by_entry None = tt
    by_entry (Some node) = if_unless (KindsStay nodes) (is_directory nodes node) code.IsDirectory _ (taken_stay nodes dir name)

pub removed_stay : (nodes : List Node) (dir : ℕ) (name : List ℕ) → IfOk (directory_removed nodes dir name) (KindsStay nodes)
removed_stay nodes dir name = by_entry (entry_at nodes dir name)
  where
    by_entry : (o : Option ℕ) → IfOk (removed_entry nodes dir name o) (KindsStay nodes)
    by_entry None = tt
    by_entry (Some node) =
        if_unless (KindsStay nodes) (not (is_directory nodes node)) code.NotDirectory _
        (if_unless (KindsStay nodes) (not (has_no_names (names_at nodes node))) code.NotEmpty _ (taken_stay nodes dir name))

put_stay : (nodes : List Node) (dir : ℕ) (name : List ℕ) (node : ℕ) (target : Option ℕ) → KindsStay nodes (put_at nodes dir name node target)
put_stay nodes dir name node None = stay (body_with_name name node) (keeps_name name node).kind nodes dir
put_stay nodes dir name node (Some before) = stay (body_with_other name node) (keeps_other name node).kind nodes dir

moved_stay : (nodes : List Node) (from : ℕ) (name : List ℕ) (node to : ℕ) (to_name : List ℕ) (target : Option ℕ) → KindsStay nodes (moved nodes from name node to to_name target)
moved_stay nodes from name node to to_name target =
    let put : List Node = put_at nodes to to_name node target in
    let taken : List Node = without_name put from name in
    both nodes taken (with_parent taken node to) (both nodes put taken (put_stay nodes to to_name node target) (taken_stay put from name)) (stay (body_with_parent to) (parent_kind to) taken node)

pub renamed_stay : (below : ℕ → ℕ → Bool) (nodes : List Node) (dir : ℕ) (name : List ℕ) (to : ℕ) (to_name : List ℕ) → IfOk (renamed below nodes dir name to to_name) (KindsStay nodes)
renamed_stay below nodes dir name to to_name = by_entry (entry_at nodes dir name)
  where
    if_cond : (b : Bool) (r : Result (List Node) ErrorCode) → IfOk r (KindsStay nodes) → IfOk (cond b (Ok nodes) r) (KindsStay nodes)
    if_cond true r h = λ n kind e. e
    if_cond false r h = h

    by_entry : (o : Option ℕ) → IfOk (renamed_onto below nodes dir name o to to_name (entry_at nodes to to_name)) (KindsStay nodes)
    by_entry None = tt
    by_entry (Some node) =
        let target : Option ℕ = entry_at nodes to to_name in
        if_cond (is_node node target) _
        (if_unless (KindsStay nodes) (is_directory nodes node && below node to) code.Invalid _
        (if_unless_some (KindsStay nodes) (target_refusal nodes node target) _
        (if_unless (KindsStay nodes) (is_removed nodes to) code.NoEntry _ (moved_stay nodes dir name node to to_name target))))

pub size_stay : (nodes : List Node) (file size : ℕ) → KindsStay nodes (with_size nodes file size)
size_stay nodes file size = stay (body_resized size) (keeps_resized size).kind nodes file

pub sized_stay : (nodes : List Node) (file size : ℕ) → IfOk (sized nodes file size) (KindsStay nodes)
sized_stay nodes file size =
    if_unless_some (KindsStay nodes) (passed (Some (limits_of nodes)) (length (bytes_at nodes file)) size) _ (size_stay nodes file size)

after_stay : (nodes : List Node) (file : ℕ) (write : Write) → IfOk (nodes_after nodes file write) (KindsStay nodes)
after_stay nodes file (Fault refusal) = tt
after_stay nodes file (Refusal refusal) = tt
after_stay nodes file Nothing = λ n kind e. e
after_stay nodes file (Bytes now) = stay (body_with_bytes now) (keeps_bytes now).kind nodes file

pub wrote_stay : (nodes : List Node) (file : ℕ) (to : At) (bytes : List ℕ) → IfOk (wrote nodes file to bytes) (KindsStay nodes)
wrote_stay nodes file to bytes =
    after_stay nodes file (write_from (Some (limits_of nodes)) (bytes_at nodes file) (place_in 0 (length (bytes_at nodes file)) to) bytes)

pub times_stay : (nodes : List Node) (node : ℕ) (access modification : Option Datetime) → KindsStay nodes (with_times nodes node access modification)
times_stay nodes node access modification n kind h = kind_at-with_times nodes node n access modification ∙ h
