use Rattle.std.proofs.Common.{◌≡◌, ℕ, zero, suc, ◌<◌, ◌≤◌, List, [], ◌∷◌, length, slice_get, Option, Some, None, Result, Ok, Err, IfOk, Bool, true, false, cond, ltb, not, refl, sym, subst, arith}
use Rattle.std.specs.Option.{ok_or}
use Rattle.std.proofs.lemmas.Option.{slice_get_within}
use Rattle.std.proofs.lemmas.Bool.Decides.{nat_tests}
use Rattle.wasi_fs_types.specs.declared.error_code.ErrorCode.{ErrorCode}
use Rattle.wasi_fs_types.specs.declared.error_code.ErrorCode.TheVariants as code
use Rattle.wasi_fs_nodes.specs.Nodes.{body_of, kind_of_body, kind_at, entry_at}
use Rattle.wasi_fs_nodes.specs.Outcome.{then, unless}
use Rattle.wasi_fs_nodes.specs.Shape.{IsRooted, NamesNodes, IsSound}
use Rattle.wasi_fs_nodes.specs.declared.node.Node.{Node}
use Rattle.wasi_fs_nodes.specs.declared.node.Kind.{Kind}
use Rattle.wasi_fs_nodes.specs.declared.node.Kind.TheVariants as kind
use Rattle.wasi_fs_paths.specs.Components.{components, is_parent, is_empty, begins_with_slash, ends_with_slash}
use Rattle.wasi_fs_paths.specs.Paths.{Place, Inside, Named, walk, settled, settled_kind, resolved, node_of}
use Rattle.wasi_fs_paths.specs.Places.{IsPlace, place_of, place_result}
use Rattle.wasi_fs_paths.specs.laws.Stands.{stand_walk, stand_last, stand_past, stand_back, stand_into, stand_into_kind, stand_inside}
use Rattle.wasi_fs_paths.specs.declared.place.Place.{Place as Lent}
use Rattle.wasi_fs_paths.specs.declared.place.Wish.{Wish}
use Rattle.wasi_fs_paths.specs.declared.walk.Stand.{Stand}
use Rattle.wasi_fs_paths.proofs.TrailFacts.{goes_back_along}

abbrev StandsIn : List Node → Stand → Type 0
StandsIn nodes stand = kind_at nodes stand.here ≡ Some kind.Directory

if_unless : {A : Type 0} (P : A → Type 0) (b : Bool) (e : ErrorCode) (r : Result A ErrorCode) → (b ≡ false → IfOk r P) → IfOk (unless b e r) P
if_unless P true e r h = tt
if_unless P false e r h = h refl

if_cond : {A : Type 0} (P : A → Type 0) (b : Bool) (r s : Result A ErrorCode) → IfOk r P → IfOk s P → IfOk (cond b r s) P
if_cond P true r s h k = h
if_cond P false r s h k = k

if_then : {A B : Type 0} (P : A → Type 0) (Q : B → Type 0) (r : Result A ErrorCode) (f : A → Result B ErrorCode) → IfOk r P → ((a : A) → P a → IfOk (f a) Q) → IfOk (then r f) Q
if_then P Q (Ok a) f h k = k a h
if_then P Q (Err e) f h k = tt

if_back : (nodes : List Node) → IsRooted nodes → (depth here : ℕ) → kind_at nodes here ≡ Some kind.Directory → IfOk (stand_back nodes depth here) (StandsIn nodes)
if_back nodes t zero here h = tt
if_back nodes t (suc depth) here h = t.parents here h

if_into : (nodes : List Node) (depth : ℕ) (o : Option ℕ) → IfOk (stand_into nodes depth o) (StandsIn nodes)
if_into nodes depth None = tt
if_into nodes depth (Some n) =
    let P : Option Kind → Type 0 = λ k. kind_at nodes n ≡ k → IfOk (stand_into_kind depth n k) (StandsIn nodes) in
    elim (kind_at nodes n) as P [
      | None ↦ λ _. tt
      | Some k ↦ elim k as (λ k. P (Some k)) [
        | kind.File ↦ λ _. tt
        | kind.Directory ↦ λ e. e
        | kind.Link ↦ λ _. tt
      ]
    ] refl

if_past : (nodes : List Node) → IsRooted nodes → (depth here : ℕ) (name : List ℕ) → kind_at nodes here ≡ Some kind.Directory → IfOk (stand_past nodes depth here name) (StandsIn nodes)
if_past nodes t depth here name h = if_cond (StandsIn nodes) (is_parent name) _ _ (if_back nodes t depth here h) (if_unless (StandsIn nodes) (ltb 255 (length name)) code.NameTooLong _ (λ _. if_into nodes depth (entry_at nodes here name)))

if_inside : (nodes : List Node) (r : Result Stand ErrorCode) → IfOk r (StandsIn nodes) → IfOk (stand_inside r) (IsPlace nodes)
if_inside nodes (Ok stand) h = h
if_inside nodes (Err e) h = tt

short : (n : ℕ) → ltb 255 n ≡ false → n ≤ 255
short n h = grind (arith, nat_tests)

if_last : (nodes : List Node) → IsRooted nodes → (depth here : ℕ) (name : List ℕ) → kind_at nodes here ≡ Some kind.Directory → IfOk (stand_last nodes depth here name) (IsPlace nodes)
if_last nodes t depth here name h =
    if_cond (IsPlace nodes) (is_parent name) _ _ (if_inside nodes _ (if_back nodes t depth here h))
    (if_unless (IsPlace nodes) (ltb 255 (length name)) code.NameTooLong _ (λ e. record { directory = h; node_is = refl; short = short (length name) e }))

if_walk : (nodes : List Node) → IsRooted nodes → (depth here : ℕ) (names : List (List ℕ)) → kind_at nodes here ≡ Some kind.Directory → IfOk (stand_walk nodes depth here names) (IsPlace nodes)
if_walk nodes t depth here [] h = h
if_walk nodes t depth here (name ∷ []) h = if_last nodes t depth here name h
if_walk nodes t depth here (name ∷ next ∷ names) h =
    if_then (StandsIn nodes) (IsPlace nodes) (stand_past nodes depth here name) _ (if_past nodes t depth here name h) (λ stand k. if_walk nodes t stand.depth stand.here (next ∷ names) k)

if_settled : (nodes : List Node) (wish : Wish) (slash : Bool) (p : Place) → IsPlace nodes p → IfOk (settled nodes wish slash p) (IsPlace nodes)
if_settled nodes wish slash (Inside dir) h = h
if_settled nodes wish slash (Named dir name None) h = if_unless (IsPlace nodes) (not wish.may_make) code.NoEntry _ (λ _. h)
if_settled nodes wish slash (Named dir name (Some n)) h =
    let P : Option Kind → Type 0 = λ k. IfOk (settled_kind wish slash dir name n k) (IsPlace nodes) in
    elim (kind_at nodes n) as P [
      | None ↦ h
      | Some k ↦ elim k as (λ k. P (Some k)) [
        | kind.File ↦ if_unless (IsPlace nodes) slash code.NotDirectory _ (λ _. h)
        | kind.Directory ↦ h
        | kind.Link ↦ if_unless (IsPlace nodes) wish.follow code.Loop _ (λ _. if_unless (IsPlace nodes) slash code.NotDirectory _ (λ _. h))
      ]
    ]

-- where a path is not refused, it leads to a place of the tree
pub if_resolved : (nodes : List Node) → IsSound nodes → (start : ℕ) (wish : Wish) (path : List ℕ) → kind_at nodes start ≡ Some kind.Directory
    → IfOk (resolved nodes start wish path) (IsPlace nodes)
if_resolved nodes s start wish path h =
    let P : Result Place ErrorCode → Type 0 = λ r. IfOk r (IsPlace nodes) in
    if_unless (IsPlace nodes) (is_empty path) code.NoEntry _ (λ _. if_unless (IsPlace nodes) (begins_with_slash path) code.NotPermitted _ (λ _.
    if_then (IsPlace nodes) (IsPlace nodes) (walk nodes [] start (components path)) (settled nodes wish (ends_with_slash path))
    (subst P (goes_back_along nodes s.stands start (components path)) (if_walk nodes s.rooted 0 start (components path) h))
    (λ p k. if_settled nodes wish (ends_with_slash path) p k)))

pub lent_place : (nodes : List Node) (r : Result Lent ErrorCode) → IfOk (place_result r) (IsPlace nodes) → IfOk r (λ p. IsPlace nodes (place_of p))
lent_place nodes (Ok p) h = h
lent_place nodes (Err e) h = tt

-- a number that is something is of a node that was made
within : (nodes : List Node) (n : ℕ) (o : Option Node) → slice_get nodes n ≡ o → (k : Kind) → kind_of_body (body_of o) ≡ Some k → n < length nodes
within nodes n None e k h = cc
within nodes n (Some node) e k h = slice_get_within nodes n node e

-- the node at a place of the tree was made
pub ok_made : (nodes : List Node) → NamesNodes nodes → (p : Place) → IsPlace nodes p → IfOk (ok_or (node_of p) code.NoEntry) (λ n. n < length nodes)
ok_made nodes w (Inside dir) h = within nodes dir (slice_get nodes dir) refl kind.Directory h
ok_made nodes w (Named dir name None) h = tt
ok_made nodes w (Named dir name (Some n)) h = w dir name n (sym h.node_is)
