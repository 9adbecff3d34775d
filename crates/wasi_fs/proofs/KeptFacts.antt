-- A descriptor that is of a tree stays one, and what is opened is of the tree.
use Rattle.std.proofs.Common.{◌≡◌, ℕ, zero, suc, List, [], ◌∷◌, ◌++◌, length, Option, Some, None, Result, Ok, Err, IfOk, Bool, true, false, ◌||◌, refl, ap, sym, ◌∙◌, subst}
use Rattle.wasi_base.specs.declared.trappable.TrappableError.{TrappableError}
use Rattle.wasi_base.specs.declared.trappable.TrappableError.TheVariants.{Normal, Trap, OutOfMemory}
use Rattle.wasi_clocks.specs.declared.datetimes.Datetime.{Datetime}
use Rattle.wasi_clocks.specs.declared.wall_times.WallTime.{WallTime}
use Rattle.wasi_fs_types.specs.declared.error_code.ErrorCode.{ErrorCode}
use Rattle.wasi_fs_types.specs.declared.error_code.ErrorCode.TheVariants as code
use Rattle.wasi_fs_types.specs.declared.flags.DescriptorFlags.{DescriptorFlags}
use Rattle.wasi_fs_types.specs.declared.flags.OpenFlags.{OpenFlags}
use Rattle.wasi_fs_types.specs.declared.flags.PathFlags.{PathFlags}
use Rattle.wasi_fs_nodes.specs.Bodies.{with_body, body_with_name, with_name, with_new, with_size}
use Rattle.wasi_fs_nodes.specs.Changes.{made, may_make, new_file}
use Rattle.wasi_fs_nodes.specs.Nodes.{kind_of, kind_at}
use Rattle.wasi_fs_nodes.specs.Outcome.{then, unless}
use Rattle.wasi_fs_nodes.specs.Shape.{KindsStay}
use Rattle.wasi_fs_nodes.specs.declared.node.Node.{Node}
use Rattle.wasi_fs_nodes.specs.declared.node.Body.{Body}
use Rattle.wasi_fs_nodes.specs.declared.node.Kind.{Kind}
use Rattle.wasi_fs_nodes.specs.declared.node.Kind.TheVariants as kind
use Rattle.wasi_fs_paths.specs.Components.{ends_with_slash}
use Rattle.wasi_fs_paths.specs.Paths.{Place, Inside, Named, resolved}
use Rattle.wasi_fs.specs.Calls.{added_at, added, there_or_new}
use Rattle.wasi_fs.specs.Flags.{follows, creates, wants_directory, truncates, wants_write}
use Rattle.wasi_fs.specs.Opening.{wants_new, well_asked, directory_opened_or_refused, emptied_if, opened_kind, opened_at, opened}
use Rattle.wasi_fs.specs.Outcome.{Leaves, LeavesAlways, Gives}
use Rattle.wasi_fs.specs.Times.{time_of}
use Rattle.wasi_fs.specs.Trees.{TreeState, with_nodes, IsOf, KeepsDescriptors}
use Rattle.wasi_fs.specs.declared.descriptor.Descriptor.{Descriptor}
use Rattle.wasi_fs.specs.declared.descriptor.Descriptor.TheVariants as descriptor
use Rattle.wasi_fs.specs.declared.opening.Opening.{Opening}
use Rattle.wasi_fs.proofs.OutcomeFacts.{always_leaves}

pub kept_by_kinds : (old new : TreeState) → new.number ≡ old.number → KindsStay old.nodes new.nodes → KeepsDescriptors old new
kept_by_kinds old new e k (descriptor.File file) h = record { number = h.number ∙ sym e; made = k file.node kind.File h.made }
kept_by_kinds old new e k (descriptor.Dir dir) h = record { number = h.number ∙ sym e; made = k dir.node kind.Directory h.made }

kept_same : (old new : TreeState) → new ≡ old → KeepsDescriptors old new
kept_same old new e = subst (λ (t : TreeState). KeepsDescriptors old t) (sym e) (λ at h. h)

stay_of : (P : List Node → Type 0) (nodes : List Node) (outcome : Result (List Node) ErrorCode) → outcome ≡ Ok nodes → IfOk outcome P → P nodes
stay_of P nodes outcome e h = let Q : Result (List Node) ErrorCode → Type 0 = λ r. IfOk r P in subst Q e h

-- a change under which each node stays what it is keeps the descriptors
pub left_kept : {A : Type 0} (old new : TreeState) (r : Result A (TrappableError ErrorCode)) (outcome : Result (List Node) ErrorCode)
    → Leaves old new r outcome → IfOk outcome (KindsStay old.nodes) → KeepsDescriptors old new
left_kept old new (Ok a) outcome h k = kept_by_kinds old new (ap (λ (t : TreeState). t.number) h.1) (stay_of (KindsStay old.nodes) new.nodes outcome h.0 k)
left_kept old new (Err (Normal code)) outcome h k = kept_same old new h.1
left_kept old new (Err (Trap text)) outcome h k = absurd h
left_kept old new (Err OutOfMemory) outcome h k = kept_same old new h.1

pub always_kept : {A : Type 0} (old new : TreeState) (r : Result A (TrappableError ErrorCode)) (outcome : Result (List Node) ErrorCode)
    → LeavesAlways old new r outcome → IfOk outcome (KindsStay old.nodes) → KeepsDescriptors old new
always_kept old new r outcome h k = left_kept old new r outcome (always_leaves old new r outcome h) k

gave_of : {A : Type 0} (P : A × List Node → Type 0) (a : A) (nodes : List Node) (outcome : Result (A × List Node) ErrorCode) → outcome ≡ Ok (a, nodes) → IfOk outcome P → P (a, nodes)
gave_of {A} P a nodes outcome e h = let Q : Result (A × List Node) ErrorCode → Type 0 = λ r. IfOk r P in subst Q e h

pub gave_kept : {A : Type 0} (old new : TreeState) (r : Result A (TrappableError ErrorCode)) (outcome : Result (A × List Node) ErrorCode)
    → Gives old new r outcome → IfOk outcome (λ o. KindsStay old.nodes o.1) → KeepsDescriptors old new
gave_kept old new (Ok a) outcome h k = kept_by_kinds old new (ap (λ (t : TreeState). t.number) h.1) (gave_of (λ o. KindsStay old.nodes o.1) a new.nodes outcome h.0 k)
gave_kept old new (Err (Normal code)) outcome h k = kept_same old new h.1
gave_kept old new (Err (Trap text)) outcome h k = absurd h
gave_kept old new (Err OutOfMemory) outcome h k = kept_same old new h.1

-- what was opened is of the tree that is left
pub gave_of_tree : (old new : TreeState) (r : Result Descriptor (TrappableError ErrorCode)) (outcome : Result (Descriptor × List Node) ErrorCode)
    → Gives old new r outcome → IfOk outcome (λ o. IsOf (with_nodes old o.1) o.0) → IfOk r (IsOf new)
gave_of_tree old new (Ok at) outcome h k =
    subst (λ (t : TreeState). IsOf t at) (sym h.1) (gave_of (λ o. IsOf (with_nodes old o.1) o.0) at new.nodes outcome h.0 k)
gave_of_tree old new (Err e) outcome h k = tt

-- THE LAWS OF THE NODES that this stands on
abbrev pub MadeStay : Type 0
MadeStay = (nodes : List Node) (dir : ℕ) (name : List ℕ) (node : Node) → IfOk (made nodes dir name node) (KindsStay nodes)

abbrev pub EmptiedStay : Type 0
EmptiedStay = (nodes : List Node) (file size : ℕ) → KindsStay nodes (with_size nodes file size)

if_unless : {A : Type 0} (P : A → Type 0) (b : Bool) (refusal : ErrorCode) (r : Result A ErrorCode) → IfOk r P → IfOk (unless b refusal r) P
if_unless P true refusal r h = tt
if_unless P false refusal r h = h

if_then : {A B : Type 0} (P : B → Type 0) (r : Result A ErrorCode) (f : A → Result B ErrorCode) → ((a : A) → r ≡ Ok a → IfOk (f a) P) → IfOk (then r f) P
if_then P (Ok a) f h = h a refl
if_then P (Err refusal) f h = tt

if_known : {A B : Type 0} (P : B → Type 0) (Q : A → Type 0) (r : Result A ErrorCode) (f : A → Result B ErrorCode) → IfOk r Q → ((a : A) → Q a → IfOk (f a) P) → IfOk (then r f) P
if_known P Q (Ok a) f h k = k a h
if_known P Q (Err refusal) f h k = tt

added_by_place : MadeStay → (nodes : List Node) (slash : Bool) (node : ℕ → Node) (place : Place) → IfOk (added_at nodes slash node place) (KindsStay nodes)
added_by_place law nodes slash node (Inside dir) = tt
added_by_place law nodes slash node (Named dir name (Some n)) = tt
added_by_place law nodes slash node (Named dir name None) = if_unless (KindsStay nodes) slash code.Invalid _ (law nodes dir name (node dir))

pub added_stay : MadeStay → (nodes : List Node) (path : List ℕ) (node : ℕ → Node) → IfOk (added nodes path node) (KindsStay nodes)
added_stay law nodes path node =
    if_then (KindsStay nodes) (resolved nodes 0 there_or_new path) (added_at nodes (ends_with_slash path) node) (λ place _. added_by_place law nodes (ends_with_slash path) node place)

emptied_stays : EmptiedStay → (b : Bool) (nodes : List Node) (n : ℕ) → KindsStay nodes (emptied_if b nodes n)
emptied_stays law true nodes n = law nodes n 0
emptied_stays law false nodes n = λ m k h. h

abbrev Stays : List Node → Descriptor × List Node → Type 0
Stays nodes o = KindsStay nodes o.1

stay_by_kind : EmptiedStay → (nodes : List Node) (opening : Opening) (n : ℕ) (k : Option Kind) → IfOk (opened_kind nodes opening n k) (Stays nodes)
stay_by_kind law nodes opening n None = tt
stay_by_kind law nodes opening n (Some kind.Link) = tt
stay_by_kind law nodes opening n (Some kind.File) =
    if_unless (Stays nodes) (wants_new opening) code.Exist _
    (if_unless (Stays nodes) (wants_directory opening.how) code.NotDirectory _ (emptied_stays law (truncates opening.how) nodes n))
stay_by_kind law nodes opening n (Some kind.Directory) = if_then (Stays nodes) (directory_opened_or_refused opening n) _ (λ d _. λ m k h. h)

stay_by_place : MadeStay → EmptiedStay → (nodes : List Node) (opening : Opening) (slash : Bool) (time : Option Datetime) (place : Place) → IfOk (opened_at nodes opening slash time place) (Stays nodes)
stay_by_place law emptied nodes opening slash time (Inside n) = stay_by_kind emptied nodes opening n (kind_at nodes n)
stay_by_place law emptied nodes opening slash time (Named in_dir name (Some n)) = stay_by_kind emptied nodes opening n (kind_at nodes n)
stay_by_place law emptied nodes opening slash time (Named in_dir name None) = if_unless (Stays nodes) slash code.IsDirectory _
    (if_known (Stays nodes) (KindsStay nodes) (made nodes in_dir name (new_file [] time)) _ (law nodes in_dir name (new_file [] time)) (λ after h. h))

pub opened_stay : MadeStay → EmptiedStay → (nodes : List Node) (at : Descriptor) (path_flags : PathFlags) (path : List ℕ) (how : OpenFlags) (flags : DescriptorFlags) (now : WallTime) (blocking : Bool)
    → IfOk (opened nodes at path_flags path how flags now blocking) (λ o. KindsStay nodes o.1)
opened_stay law emptied nodes (descriptor.File file) path_flags path how flags now blocking = tt
opened_stay law emptied nodes (descriptor.Dir dir) path_flags path how flags now blocking =
    let opening : Opening = record { from = dir; how = how; flags = flags; blocking = blocking } in
    if_then (Stays nodes) (well_asked opening) _ (λ _ _.
    if_then (Stays nodes) (resolved nodes dir.node (record { follow = follows path_flags; may_make = creates how }) path) (opened_at nodes opening (ends_with_slash path) (time_of now))
    (λ place _. stay_by_place law emptied nodes opening (ends_with_slash path) (time_of now) place))

length-with_body : (f : Body → Body) (nodes : List Node) (n : ℕ) → length (with_body f nodes n) ≡ length nodes
length-with_body f [] n = refl
length-with_body f (x ∷ xs) zero = refl
length-with_body f (x ∷ xs) (suc n) = ap suc (length-with_body f xs n)

kind_last : (nodes : List Node) (node : Node) → kind_at (nodes ++ node ∷ []) (length nodes) ≡ Some (kind_of node.body)
kind_last [] node = refl
kind_last (x ∷ xs) node = kind_last xs node

kind_new : (nodes : List Node) (dir : ℕ) (name : List ℕ) (node : Node) → kind_at (with_new nodes dir name node) (length nodes) ≡ Some (kind_of node.body)
kind_new nodes dir name node =
    subst (λ (n : ℕ). kind_at (with_new nodes dir name node) n ≡ Some (kind_of node.body)) (length-with_body (body_with_name name (length nodes)) nodes dir)
    (kind_last (with_name nodes dir name (length nodes)) node)

abbrev Known : TreeState → Descriptor × List Node → Type 0
Known tree o = IsOf (with_nodes tree o.1) o.0

directory_known : (tree : TreeState) (opening : Opening) → opening.from.tree ≡ tree.number → (n : ℕ) → kind_at tree.nodes n ≡ Some kind.Directory
    → IfOk (directory_opened_or_refused opening n) (λ d. Known tree (d, tree.nodes))
directory_known tree opening number n e =
    if_unless (λ d. Known tree (d, tree.nodes)) (wants_new opening) code.Exist _
    (if_unless (λ d. Known tree (d, tree.nodes)) (wants_write opening.flags || truncates opening.how) code.IsDirectory _ (record { number = number; made = e }))

known_by_kind : EmptiedStay → (tree : TreeState) (opening : Opening) → opening.from.tree ≡ tree.number → (n : ℕ) (k : Option Kind) → kind_at tree.nodes n ≡ k
    → IfOk (opened_kind tree.nodes opening n k) (Known tree)
known_by_kind law tree opening number n None e = tt
known_by_kind law tree opening number n (Some kind.Link) e = tt
known_by_kind law tree opening number n (Some kind.File) e =
    if_unless (Known tree) (wants_new opening) code.Exist _ (if_unless (Known tree) (wants_directory opening.how) code.NotDirectory _
    (record { number = number; made = emptied_stays law (truncates opening.how) tree.nodes n n kind.File e }))
known_by_kind law tree opening number n (Some kind.Directory) e =
    if_known (Known tree) (λ d. Known tree (d, tree.nodes)) (directory_opened_or_refused opening n) _ (directory_known tree opening number n e) (λ d h. h)

abbrev IsFileAt : ℕ → List Node → Type 0
IsFileAt n nodes = kind_at nodes n ≡ Some kind.File

new_known : (nodes : List Node) (dir : ℕ) (name : List ℕ) (time : Option Datetime) → IfOk (made nodes dir name (new_file [] time)) (IsFileAt (length nodes))
new_known nodes dir name time = if_then (IsFileAt (length nodes)) (may_make nodes dir name 0) _ (λ _ _. kind_new nodes dir name (new_file [] time))

known_by_place : EmptiedStay → (tree : TreeState) (opening : Opening) → opening.from.tree ≡ tree.number → (slash : Bool) (time : Option Datetime) (place : Place)
    → IfOk (opened_at tree.nodes opening slash time place) (Known tree)
known_by_place law tree opening number slash time (Inside n) = known_by_kind law tree opening number n (kind_at tree.nodes n) refl
known_by_place law tree opening number slash time (Named in_dir name (Some n)) = known_by_kind law tree opening number n (kind_at tree.nodes n) refl
known_by_place law tree opening number slash time (Named in_dir name None) = if_unless (Known tree) slash code.IsDirectory _
    (if_known (Known tree) (IsFileAt (length tree.nodes)) (made tree.nodes in_dir name (new_file [] time)) _ (new_known tree.nodes in_dir name time)
    (λ after h. record { number = number; made = h }))

pub opened_is_of : EmptiedStay → (tree : TreeState) (at : Descriptor) → IsOf tree at → (path_flags : PathFlags) (path : List ℕ) (how : OpenFlags) (flags : DescriptorFlags) (now : WallTime) (blocking : Bool)
    → IfOk (opened tree.nodes at path_flags path how flags now blocking) (λ o. IsOf (with_nodes tree o.1) o.0)
opened_is_of law tree (descriptor.File file) is_of path_flags path how flags now blocking = tt
opened_is_of law tree (descriptor.Dir dir) is_of path_flags path how flags now blocking =
    let opening : Opening = record { from = dir; how = how; flags = flags; blocking = blocking } in
    if_then (Known tree) (well_asked opening) _ (λ _ _.
    if_then (Known tree) (resolved tree.nodes dir.node (record { follow = follows path_flags; may_make = creates how }) path) (opened_at tree.nodes opening (ends_with_slash path) (time_of now))
    (λ place _. known_by_place law tree opening is_of.number (ends_with_slash path) (time_of now) place))
