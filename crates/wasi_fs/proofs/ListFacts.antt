use Rattle.std.proofs.Common.{◌≡◌, ◌≢◌, ℕ, zero, suc, ◌<◌, List, [], ◌∷◌, ◌++◌, length, map, Some, Result, Ok, Err, cond, refl, ap, sym, subst, ◌∙◌, append_assoc, arith}
use Rattle.std.proofs.lemmas.Cmp.{nat_list_cmp_total, tied_itself}
use Rattle.std.specs.Cmp.Lexicographic.{slice_cmp}
use Rattle.std.specs.List.{AllByRecursion}
use Rattle.std.specs.List.Sorted.{IsStrictlySortedBy}
use Rattle.std.specs.Map.{keys_of}
use Rattle.std.specs.Ordering.{nat_cmp, is_eq, ordering_reverse}
use Rattle.std.specs.declared.cmp.Ordering.{Ordering}
use Rattle.std.specs.declared.cmp.Ordering.TheVariants.{Less, Equal, Greater}
use Rattle.std.specs.Prelude.{Vec, IfOk}
use Rattle.wasi_fs_nodes.specs.Names.{IsAscending, entry_of}
use Rattle.wasi_fs_types.specs.declared.descriptor.DescriptorType.{DescriptorType}
use Rattle.wasi_fs_types.specs.declared.descriptor.DescriptorType.TheVariants as type
use Rattle.wasi_fs_nodes.specs.Nodes.{kind_of, kind_at, names_at}
use Rattle.wasi_fs_nodes.specs.Shape.{IsSound}
use Rattle.wasi_fs_nodes.specs.Stats.{pairs_of}
use Rattle.wasi_fs_nodes.specs.declared.node.Node.{Node}
use Rattle.wasi_fs_nodes.specs.declared.node.Kind.{Kind}
use Rattle.wasi_fs_nodes.specs.declared.node.Kind.TheVariants as kind
use Rattle.wasi_fs_nodes.specs.declared.stats.Entry.{Entry}
use Rattle.wasi_fs.specs.Listing.{Ascend, AreKnown, type_of_node, entries_told}
use Rattle.wasi_fs.specs.LookUps.{type_of}
use Rattle.wasi_fs.specs.declared.entries.DirectoryEntry.{DirectoryEntry}

-- an entry that is told goes from those that are left to those that were told
pub one_more : (nodes : List Node) (xs : List DirectoryEntry) (entry : Entry) (left : List Entry) (type : DescriptorType) (name : List ℕ)
    → type ≡ type_of_node (kind_at nodes entry.node) → name ≡ entry.name → (ys : List DirectoryEntry) → ys ≡ xs ++ record { type_ = type; name = name } ∷ []
    → ys ++ entries_told nodes (pairs_of left) ≡ xs ++ entries_told nodes (pairs_of (entry ∷ left))
one_more nodes xs entry left type name e f ys g =
    let rest : List DirectoryEntry = entries_told nodes (pairs_of left) in
    ap (λ (es : List DirectoryEntry). es ++ rest) g
    ∙ append_assoc xs (record { type_ = type; name = name } ∷ []) rest
    ∙ ap (λ (t : DescriptorType). xs ++ (record { type_ = t; name = name } ∷ rest)) e
    ∙ ap (λ (n : List ℕ). xs ++ (record { type_ = type_of_node (kind_at nodes entry.node); name = n } ∷ rest)) f

-- what is told ascends as the directory's names do
told_names : (nodes : List Node) (names : List (List ℕ × ℕ)) → map (λ (entry : DirectoryEntry). entry.name) (entries_told nodes names) ≡ keys_of names
told_names nodes [] = refl
told_names nodes (e ∷ names) = ap (λ ks. e.0 ∷ ks) (told_names nodes names)

told_ascend : (nodes : List Node) (names : List (List ℕ × ℕ)) → IsAscending (keys_of names) → Ascend (entries_told nodes names)
told_ascend nodes names h = subst IsAscending (sym (told_names nodes names)) h

-- each node that an entry names was made, so its type is known
found_above : (a : List ℕ) (names : List (List ℕ × ℕ)) (q : List ℕ) (n : ℕ) → AllByRecursion (λ k. slice_cmp nat_cmp a k ≡ Less) (keys_of names) → entry_of names q ≡ Some n → slice_cmp nat_cmp q a ≡ Greater
found_above a [] q n t h = cc
found_above a (e ∷ names) q n t h =
    let P : Ordering → Type 0 = λ o. slice_cmp nat_cmp q e.0 ≡ o → cond (is_eq o) (Some e.1) (entry_of names q) ≡ Some n → slice_cmp nat_cmp q a ≡ Greater in
    elim (slice_cmp nat_cmp q e.0) as P [
      | Less ↦ λ _ k. found_above a names q n t.1 k
      | Equal ↦ λ same _. nat_list_cmp_total.congr q e.0 a same ∙ nat_list_cmp_total.antisymm e.0 a ∙ ap ordering_reverse t.0
      | Greater ↦ λ _ k. found_above a names q n t.1 k
    ] refl h

type_known : (k : Kind) → type_of k ≢ type.Unknown
type_known kind.File e = cc
type_known kind.Directory e = cc
type_known kind.Link e = cc

made_known : (nodes : List Node) (n : ℕ) → n < length nodes → type_of_node (kind_at nodes n) ≢ type.Unknown
made_known [] n l = absurd (omega arith)
made_known (x ∷ nodes) zero l = type_known (kind_of x.body)
made_known (x ∷ nodes) (suc n) l = made_known nodes n (omega arith)

told_known : (nodes : List Node) (names : List (List ℕ × ℕ)) → IsAscending (keys_of names) → ((q : List ℕ) (n : ℕ) → entry_of names q ≡ Some n → n < length nodes) → AreKnown (entries_told nodes names)
unfolding IsStrictlySortedBy
told_known nodes [] o h = tt
told_known nodes (e ∷ names) o h = (
  made_known nodes e.1 (h e.0 e.1 (ap (λ r. cond (is_eq r) (Some e.1) (entry_of names e.0)) (tied_itself nat_list_cmp_total e.0))),
  told_known nodes names o.1 (λ q n f. h q n (ap (λ r. cond (is_eq r) (Some e.1) (entry_of names q)) (found_above e.0 names q n o.0 f) ∙ f)),
)

-- the names that were listed, told
pub told_here : {A E : Type 0} (result : Result (Vec DirectoryEntry A) E) (nodes : List Node) (pairs names : List (List ℕ × ℕ)) → IfOk result (λ entries. entries.items ≡ entries_told nodes pairs) → pairs ≡ names → IfOk result (λ entries. entries.items ≡ entries_told nodes names)
told_here (Ok entries) nodes pairs names told same = told ∙ ap (entries_told nodes) same
told_here (Err error) nodes pairs names told same = tt

pub told_in_order : {A E : Type 0} (result : Result (Vec DirectoryEntry A) E) (nodes : List Node) (names : List (List ℕ × ℕ)) → IfOk result (λ entries. entries.items ≡ entries_told nodes names) → IsAscending (keys_of names) → IfOk result (λ entries. Ascend entries.items)
told_in_order (Ok entries) nodes names told ascending = subst Ascend (sym told) (told_ascend nodes names ascending)
told_in_order (Err error) nodes names told ascending = tt

pub told_all_known : {A E : Type 0} (result : Result (Vec DirectoryEntry A) E) (nodes : List Node) (dir : ℕ) → IsSound nodes → IfOk result (λ entries. entries.items ≡ entries_told nodes (names_at nodes dir)) → IfOk result (λ entries. AreKnown entries.items)
told_all_known (Ok entries) nodes dir sound told = subst AreKnown (sym told) (told_known nodes (names_at nodes dir) (sound.ordered dir) (sound.named dir))
told_all_known (Err error) nodes dir sound told = tt
