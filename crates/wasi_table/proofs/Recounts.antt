-- A row more, a row less, and their parents' counts.
use Rattle.std.proofs.Common.{◌≡◌, ℕ, ◌+◌, ◌-◌, ◌≤◌, ◌<◌, ◌^◌, Bool, true, false, cond, List, length, Option, Some, None, is_some, IsSome, refl, sym, ◌∙◌, ap, subst, arith, true≢false}
use Rattle.std.proofs.lemmas.Bool.{eqb-true, eq-eqb, ne_eqb, both_ways}
use Rattle.std.proofs.lemmas.Map.Entries.{sum_by-insert_entry, sum_by-remove_entry, sum_by-set_value}
use Rattle.std.specs.List.Sorted.{IsStrictlySortedBy}
use Rattle.std.specs.Prelude.{eqb}
use Rattle.std.specs.Ordering.{nat_cmp}
use Rattle.std.specs.Option.{option_map, unwrap_or}
use Rattle.std.specs.Cmp.{nat_cmp_total}
use Rattle.std.specs.Map.{keys_of, set_value, remove_entry}
use Rattle.std.specs.BTreeMap.{is_at, insert_entry}
use Rattle.std.specs.FinMap as finite
use Rattle.wasi_table.specs.declared.rows.Row.{Row}
use Rattle.wasi_table.specs.Table.{is_number}
use Rattle.wasi_table.specs.Rows.{held_in, held_rows, row_at, names, named, children_in, recounted, IsCounted, IsRecount, CanAdd, IsAdded}
use Rattle.wasi_table.proofs.RowFacts.{turned, held_rows-set_value, rows-insert, named-le}

none_recounted : {E : Type 0} (f : ℕ → ℕ) (o : Option (Row E)) → children_in o ≡ recounted f false o
none_recounted f None = refl
none_recounted f (Some row) = refl

module _ {E : Type 0} (f : ℕ → ℕ) (es : List (ℕ × Row E)) (ordered : IsStrictlySortedBy nat_cmp (keys_of es)) where
  pub recount-none : IsRecount f None es es
  recount-none = record { ordered = ordered; held = refl; named = λ n. refl; children = λ n. none_recounted f (row_at es n) }

  pub recount-absent : (p : ℕ) → row_at es p ≡ None → IsRecount f (Some p) es es
  recount-absent p absent = record { ordered = ordered; held = refl; named = λ n. refl; children = λ n. at n (eqb n p) refl }
    where
      at : (n : ℕ) (b : Bool) → eqb n p ≡ b → children_in (row_at es n) ≡ recounted f b (row_at es n)
      at n true e = let none : row_at es n ≡ None = ap (row_at es) (eqb-true n p e) ∙ absent in ap children_in none ∙ sym (ap (recounted f true) none)
      at n false e = none_recounted f (row_at es n)

  pub recount-written : (fs : List (ℕ × Row E)) (p : ℕ) (old new : Row E) → row_at es p ≡ Some old → held_in new ≡ held_in old → new.children ≡ f old.children
      → fs ≡ set_value (is_at (nat_cmp p)) es new → IsStrictlySortedBy nat_cmp (keys_of fs)
      → ((q : ℕ) → row_at fs q ≡ cond (is_at (nat_cmp p) q) (Some new) (row_at es q)) → IsRecount f (Some p) es fs
  recount-written fs p old new found same counted written sorted is = record {
    ordered = sorted;
    held = ap held_rows written ∙ held_rows-set_value (is_at (nat_cmp p)) es old new found same;
    named = λ n.
        let sums = sum_by-set_value (names n) (is_at (nat_cmp p)) es old new found in
        let equal : names n new ≡ names n old = ap (λ h. cond (is_number n h.parent) 1 0) same in
        ap (λ rows. named rows n) written ∙ omega (arith, sums, equal);
    children = λ n. ap children_in (is n ∙ ap (λ b. cond b (Some new) (row_at es n)) (turned p n)) ∙ at n (eqb n p) refl;
  }
    where
      at : (n : ℕ) (b : Bool) → eqb n p ≡ b → children_in (cond b (Some new) (row_at es n)) ≡ recounted f b (row_at es n)
      at n true e = counted ∙ sym (ap (recounted f true) (ap (row_at es) (eqb-true n p e) ∙ found))
      at n false e = none_recounted f (row_at es n)

pub fresh_small : {E : Type 0} (es fs : List (ℕ × Row E)) (n : ℕ) (new : Row E) → ((q : ℕ) → row_at fs q ≡ cond (is_at (nat_cmp n) q) (Some new) (row_at es q)) → new.children ≡ 0
    → ((q : ℕ) → named es q ≡ children_in (row_at es q)) → length es ≤ 65536 → (q : ℕ) → children_in (row_at fs q) + 1 < 2 ^ 32
fresh_small es fs n new is none counts small q =
    let le = named-le es q in
    let counted = counts q in
    let most : children_in (row_at fs q) ≤ 65536 = subst (λ k. k ≤ 65536) (sym (ap children_in (is q))) (at (is_at (nat_cmp n) q) (omega (arith, le, counted, small))) in
    omega (arith, most)
  where
    at : (b : Bool) → children_in (row_at es q) ≤ 65536 → children_in (cond b (Some new) (row_at es q)) ≤ 65536
    at true le = omega (arith, none)
    at false le = le

abbrev pub new_row : {E : Type 0} → E → Option ℕ → Row E
new_row entry parent = record { entry = entry; parent = parent; children = 0 }

some_not_none : {A : Type 0} (o : Option A) → IsSome o → o ≡ None → ⊥
some_not_none o s n = both_ways (is_some o) (ap is_some n) s

module _ {E : Type 0} (es fs gs : List (ℕ × Row E)) (n : ℕ) (entry : E) (parent : Option ℕ) where
  pub added : CanAdd n parent es → IsStrictlySortedBy nat_cmp (keys_of es)
      → fs ≡ insert_entry nat_cmp es n (new_row entry parent) → IsStrictlySortedBy nat_cmp (keys_of fs)
      → ((q : ℕ) → row_at fs q ≡ cond (is_at (nat_cmp n) q) (Some (new_row entry parent)) (row_at es q))
      → IsRecount (λ count. count + 1) parent fs gs → IsAdded n entry parent es gs
  added can sorted inserted sorted_fs is recount = record {
    ordered = recount.ordered;
    entries = ap (finite.from_sorted {R = nat_cmp}) recount.held ∙ rows-insert es fs n (new_row entry parent) sorted sorted_fs is;
    counts = λ q. recount.named q ∙ one_more q ∙ sym (recount.children q ∙ ap (recounted (λ count. count + 1) (is_number q parent)) (is q ∙ ap (λ b. cond b (Some (new_row entry parent)) (row_at es q)) (turned n q)) ∙ at q (eqb q n) refl);
  }
    where
      one_more : (q : ℕ) → named fs q ≡ children_in (row_at es q) + cond (is_number q parent) 1 0
      one_more q =
          let sums = sum_by-insert_entry (names q) nat_cmp_total es n (new_row entry parent) sorted in
          let none : unwrap_or (option_map (names q) (row_at es n)) 0 ≡ 0 = ap (λ o. unwrap_or (option_map (names q) o) 0) can.absent in
          let counts = can.counts q in
          ap (λ rows. named rows q) inserted ∙ omega (arith, sums, none, counts)

      not_itself : (o : Option ℕ) → parent ≡ o → is_number n o ≡ false
      not_itself None e = refl
      not_itself (Some p) e = ne_eqb n p (λ same. some_not_none (row_at es p) (can.parent_live p e) (ap (row_at es) (sym same) ∙ can.absent))

      live_parent : (o : Option ℕ) → parent ≡ o → (q : ℕ) → is_number q o ≡ true → IsSome (row_at es q)
      live_parent None e q is = absurd (true≢false (sym is))
      live_parent (Some p) e q is = ap (λ x. is_some (row_at es x)) (eqb-true q p is) ∙ can.parent_live p e

      raised : (b : Bool) (o : Option (Row E)) → (b ≡ true → IsSome o) → recounted (λ count. count + 1) b o ≡ children_in o + cond b 1 0
      raised true None live = absurd (true≢false (sym (live refl)))
      raised true (Some row) live = refl
      raised false None live = refl
      raised false (Some row) live = omega arith

      at : (q : ℕ) (b : Bool) → eqb q n ≡ b
          → recounted (λ count. count + 1) (is_number q parent) (cond b (Some (new_row entry parent)) (row_at es q)) ≡ children_in (row_at es q) + cond (is_number q parent) 1 0
      at q true e =
          let same : q ≡ n = eqb-true q n e in
          let never : is_number q parent ≡ false = ap (λ x. is_number x parent) same ∙ not_itself parent refl in
          let none : row_at es q ≡ None = ap (row_at es) same ∙ can.absent in
          ap (λ b. recounted (λ count. count + 1) b (Some (new_row entry parent))) never
          ∙ sym (ap (λ o. children_in o + cond (is_number q parent) 1 0) none ∙ ap (λ b. 0 + cond b 1 0) never)
      at q false e = raised (is_number q parent) (row_at es q) (live_parent parent refl q)

module _ {E : Type 0} (es fs : List (ℕ × Row E)) (n : ℕ) (row : Row E) where
  -- the rows without one that no other names as parent
  pub record IsTakenOut : Type 0 where
    pub found : row_at es n ≡ Some row
    pub counts : (q : ℕ) → named es q ≡ children_in (row_at es q)
    pub childless : row.children ≡ 0
    pub removed : fs ≡ remove_entry (is_at (nat_cmp n)) es
    pub at : (q : ℕ) → row_at fs q ≡ cond (is_at (nat_cmp n) q) None (row_at es q)

  module _ (out : IsTakenOut) where
    one_less : (q : ℕ) → named fs q + cond (is_number q row.parent) 1 0 ≡ children_in (row_at es q)
    one_less q =
        let sums = sum_by-remove_entry (names q) (is_at (nat_cmp n)) es in
        let value : unwrap_or (option_map (names q) (row_at es n)) 0 ≡ names q row = ap (λ o. unwrap_or (option_map (names q) o) 0) out.found in
        ap (λ rows. named rows q + names q row) out.removed ∙ ap (λ k. named (remove_entry (is_at (nat_cmp n)) es) q + k) (sym value) ∙ sums ∙ out.counts q

    no_child : children_in (row_at es n) ≡ 0
    no_child = ap children_in out.found ∙ out.childless

    not_own_parent : is_number n row.parent ≡ false
    not_own_parent = by (is_number n row.parent) (one_less n ∙ no_child)
      where
        by : (b : Bool) → named fs n + cond b 1 0 ≡ 0 → b ≡ false
        by true e = absurd (omega (arith, e))
        by false e = refl

    pub parent_counted : IsCounted row.parent fs
    parent_counted = by row.parent refl
      where
        by : (o : Option ℕ) → row.parent ≡ o → IsCounted o fs
        by None e = tt
        by (Some p) e =
            let itself : is_number p row.parent ≡ true = ap (is_number p) e ∙ eq-eqb p p refl in
            let less = one_less p in
            let one : names p row ≡ 1 = ap (λ b. cond b 1 0) itself in
            let apart : eqb p n ≡ false = ne_eqb p n (λ same. both_ways (is_number n row.parent) not_own_parent (ap (λ x. is_number x row.parent) (sym same) ∙ itself)) in
            let same : children_in (row_at fs p) ≡ children_in (row_at es p) = ap children_in (out.at p ∙ ap (λ b. cond b None (row_at es p)) (turned n p ∙ apart)) in
            omega (arith, less, one, same)

    pub lowered : (gs : List (ℕ × Row E)) → IsRecount (λ count. count - 1) row.parent fs gs → (q : ℕ) → named gs q ≡ children_in (row_at gs q)
    lowered gs recount q =
        recount.named q ∙ sym (recount.children q ∙ ap (recounted (λ count. count - 1) (is_number q row.parent)) (out.at q ∙ ap (λ b. cond b None (row_at es q)) (turned n q)) ∙ at_number (eqb q n) refl)
      where
        less : (b : Bool) (o : Option (Row E)) (k : ℕ) → k + cond b 1 0 ≡ children_in o → recounted (λ count. count - 1) b o ≡ k
        less true None k e = absurd (omega (arith, e))
        less true (Some row) k e = omega (arith, e)
        less false None k e = omega (arith, e)
        less false (Some row) k e = omega (arith, e)

        nothing : (k : ℕ) → named fs n + k ≡ 0 → 0 ≡ named fs n
        nothing k e = omega (arith, e)

        at_number : (b : Bool) → eqb q n ≡ b → recounted (λ count. count - 1) (is_number q row.parent) (cond b None (row_at es q)) ≡ named fs q
        at_number true e = nothing _ (one_less n ∙ no_child) ∙ ap (named fs) (sym (eqb-true q n e))
        at_number false e = less (is_number q row.parent) (row_at es q) (named fs q) (one_less q)
