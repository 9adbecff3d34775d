use Rattle.std.specs.Prelude.{String, string_bytes, map}
use Rattle.std.specs.List.Sorted.{IsStrictlySortedBy}
use Rattle.std.specs.List.{AllByRecursion}
use Rattle.std.proofs.Common.{◌≡◌, ℕ, suc, List, [], ◌∷◌, Some, None, Bool, true, false, cond, refl, ap, length}
use Rattle.std.specs.declared.cmp.Ordering.{Ordering}
use Rattle.std.specs.declared.cmp.Ordering.TheVariants.{Less, Equal, Greater}
use Rattle.std.specs.Ordering.{nat_cmp, match_ordering}
use Rattle.std.specs.Cmp.Lexicographic.{slice_cmp}
use Rattle.std.specs.BTreeMap.{is_at, insert_entry}
use Rattle.std.specs.Map.{lookup, remove_entry, set_value, keys_of}
use Rattle.wasi_fs_nodes.specs.Names.{IsAscending, entry_of, with_entry, without_entry, with_other, entries_of_map}

pub find_bytes : {A : Type 0} (es : List (String A × ℕ)) (q : List ℕ) → entry_of (entries_of_map es) q ≡ lookup (is_at (λ k. slice_cmp nat_cmp q (string_bytes k))) es
find_bytes [] q = refl
find_bytes (e ∷ es) q = ap (cond (is_at (λ k. slice_cmp nat_cmp q k) (string_bytes e.0)) (Some e.1)) (find_bytes es q)

pub put_bytes : {A : Type 0} (es : List (String A × ℕ)) (k : String A) (v : ℕ)
    → entries_of_map (insert_entry (λ a b. slice_cmp nat_cmp (string_bytes a) (string_bytes b)) es k v) ≡ with_entry (entries_of_map es) (string_bytes k) v
put_bytes [] k v = refl
put_bytes {A} (e ∷ es) k v =
    let P : Ordering → Type 0 = λ o. entries_of_map (match_ordering o ((k, v) ∷ e ∷ es) ((e.0, v) ∷ es) (e ∷ insert_entry (λ a b. slice_cmp nat_cmp (string_bytes a) (string_bytes b)) es k v))
    ≡ match_ordering o (((string_bytes k), v) ∷ ((string_bytes e.0), e.1) ∷ entries_of_map es) (((string_bytes e.0), v) ∷ entries_of_map es) (((string_bytes e.0), e.1) ∷ with_entry (entries_of_map es) (string_bytes k) v) in
    elim (slice_cmp nat_cmp (string_bytes k) (string_bytes e.0)) as P [
      | Less ↦ refl
      | Equal ↦ refl
      | Greater ↦ ap (λ t. ((string_bytes e.0), e.1) ∷ t) (put_bytes es k v)
    ]

pub take_bytes : {A : Type 0} (es : List (String A × ℕ)) (q : List ℕ)
    → entries_of_map (remove_entry (is_at (λ k. slice_cmp nat_cmp q (string_bytes k))) es) ≡ without_entry (entries_of_map es) q
take_bytes [] q = refl
take_bytes (e ∷ es) q =
    elim (is_at (slice_cmp nat_cmp q) (string_bytes e.0)) as (λ b. entries_of_map (cond b es (e ∷ remove_entry (is_at (λ k. slice_cmp nat_cmp q (string_bytes k))) es)) ≡ cond b (entries_of_map es) (((string_bytes e.0), e.1) ∷ without_entry (entries_of_map es) q)) [
      | true ↦ refl
      | false ↦ ap (λ t. ((string_bytes e.0), e.1) ∷ t) (take_bytes es q)
    ]

pub length_bytes : {A : Type 0} (es : List (String A × ℕ)) → length (entries_of_map es) ≡ length es
length_bytes [] = refl
length_bytes (e ∷ es) = ap suc (length_bytes es)

pub replace_bytes : {A : Type 0} (es : List (String A × ℕ)) (q : List ℕ) (v : ℕ)
    → entries_of_map (set_value (is_at (λ k. slice_cmp nat_cmp q (string_bytes k))) es v) ≡ with_other (entries_of_map es) q v
replace_bytes [] q v = refl
replace_bytes (e ∷ es) q v =
    elim (is_at (slice_cmp nat_cmp q) (string_bytes e.0)) as (λ b. entries_of_map (cond b ((e.0, v) ∷ es) (e ∷ set_value (is_at (λ k. slice_cmp nat_cmp q (string_bytes k))) es v)) ≡ cond b (((string_bytes e.0), v) ∷ entries_of_map es) (((string_bytes e.0), e.1) ∷ with_other (entries_of_map es) q v)) [
      | true ↦ refl
      | false ↦ ap (λ t. ((string_bytes e.0), e.1) ∷ t) (replace_bytes es q v)
    ]

pub absent_same : {A : Type 0} (es : List (String A × ℕ)) (q : List ℕ) (v : ℕ) → lookup (is_at (λ k. slice_cmp nat_cmp q (string_bytes k))) es ≡ None
    → set_value (is_at (λ k. slice_cmp nat_cmp q (string_bytes k))) es v ≡ es
absent_same [] q v h = refl
absent_same (e ∷ es) q v h =
    let P : Bool → Type 0 = λ b. cond b (Some e.1) (lookup (is_at (λ k. slice_cmp nat_cmp q (string_bytes k))) es) ≡ None → cond b ((e.0, v) ∷ es) (e ∷ set_value (is_at (λ k. slice_cmp nat_cmp q (string_bytes k))) es v) ≡ e ∷ es in
    elim (is_at (slice_cmp nat_cmp q) (string_bytes e.0)) as P [
      | true ↦ λ k. cc
      | false ↦ λ k. ap (λ t. e ∷ t) (absent_same es q v k)
    ] h

-- ---- in order
below_bytes : {A : Type 0} (es : List (String A × ℕ)) (k : List ℕ) → AllByRecursion (λ (y : String A). slice_cmp nat_cmp k (string_bytes y) ≡ Less) (map (λ e. e.0) es) → AllByRecursion (λ q. slice_cmp nat_cmp k q ≡ Less) (keys_of (entries_of_map es))
below_bytes [] k h = tt
below_bytes (e ∷ es) k h = (h.0, below_bytes es k h.1)

pub ascending_bytes : {A : Type 0} (es : List (String A × ℕ)) → IsStrictlySortedBy (λ (a b : String A). slice_cmp nat_cmp (string_bytes a) (string_bytes b)) (map (λ e. e.0) es) → IsAscending (keys_of (entries_of_map es))
unfolding IsStrictlySortedBy
ascending_bytes [] h = tt
ascending_bytes (e ∷ es) h = (below_bytes es (string_bytes e.0) h.0, ascending_bytes es h.1)

pub no_names_ascend : IsAscending []
unfolding IsStrictlySortedBy
no_names_ascend = tt
