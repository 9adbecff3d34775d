-- An entry has children exactly where it is a live number's parent.
use Rattle.std.specs.Prelude.{◌≡◌, ℕ, Bool, true, false, cond, ◌||◌, ◌&&◌, T, List, [], ◌∷◌, map, Option, Some, None, is_some, refl}
use Rattle.std.proofs.Common.{sym, ◌∙◌, ap, true≢false}
use Rattle.std.proofs.lemmas.Bool.{eqb-true, eq-eqb}
use Rattle.std.specs.List.{list_any}
use Rattle.std.specs.Ordering.{nat_cmp, is_eq, is_lt, eq_by_cmp}
use Rattle.std.specs.declared.cmp.Ordering.{Ordering}
use Rattle.std.specs.declared.cmp.Ordering.TheVariants.{Less, Equal, Greater}
use Rattle.std.specs.Cmp.{nat_cmp_total, tied_itself}
use Rattle.std.specs.FinMap.{find, is_sorted, get-entries, entries, entries_sorted, nat_cmp-IsAntisymmetric}
use Rattle.std.specs.FinMap.Entries.{below_all}
use Rattle.wasi_table.specs.Table.{Table, Held, held_at, has_children, is_number}

no_entry : {X : Type 0} (x : X) → None ≡ Some x → ⊥
no_entry x e = true≢false (sym (ap is_some e))

first : (a b : Bool) → T (a && b) → T a
first true b h = tt
first false b h = h

second : (a b : Bool) → T (a && b) → T b
second true b h = h
second false b h = absurd h

apart : (o : Ordering) → T (is_lt o) → is_eq o ≡ false
apart Less h = refl
apart Equal h = absurd h
apart Greater h = absurd h

tied : (o : Ordering) → is_eq o ≡ true → o ≡ Equal
tied Less e = absurd (true≢false (sym e))
tied Equal e = refl
tied Greater e = absurd (true≢false (sym e))

here : (b rest : Bool) → b ≡ true → (b || rest) ≡ true
here true rest e = refl
here false rest e = absurd (true≢false (sym e))

later : (b rest : Bool) → rest ≡ true → (b || rest) ≡ true
later true rest e = refl
later false rest e = e

module _ {X : Type 0} (p : X → Bool) where
  passing : Option X → Bool
  passing None = false
  passing (Some x) = p x

  any_found : (es : List (ℕ × X)) (n : ℕ) (x : X) → find nat_cmp n es ≡ Some x → p x ≡ true → list_any p (map (λ e. e.1) es) ≡ true
  unfolding passing
  any_found [] n x found passes = absurd (no_entry x found)
  any_found (e ∷ es) n x found passes = by (λ is. any_found es n x is passes) (eq_by_cmp nat_cmp n e.0) found
    where
      by : (find nat_cmp n es ≡ Some x → list_any p (map (λ e. e.1) es) ≡ true) → (b : Bool) → cond b (Some e.1) (find nat_cmp n es) ≡ Some x → (p e.1 || list_any p (map (λ e. e.1) es)) ≡ true
      by rest true is = here (p e.1) _ (ap passing is ∙ passes)
      by rest false is = later (p e.1) _ (rest is)

  below_none : (k : ℕ) (es : List (ℕ × X)) → T (below_all nat_cmp k es) → find nat_cmp k es ≡ None
  below_none k [] low = refl
  below_none k (e ∷ es) low = ap (λ b. cond b (Some e.1) (find nat_cmp k es)) (apart (nat_cmp k e.0) (first _ _ low)) ∙ below_none k es (second _ _ low)

  -- an entry that passes, with its key
  record Found (es : List (ℕ × X)) : Type 0 where
    n : ℕ
    x : X
    found : find nat_cmp n es ≡ Some x
    passes : p x ≡ true

  found_later : (e : ℕ × X) (es : List (ℕ × X)) → T (below_all nat_cmp e.0 es) → Found es → Found (e ∷ es)
  found_later e es low it = by (eq_by_cmp nat_cmp it.n e.0) refl
    where
      by : (b : Bool) → eq_by_cmp nat_cmp it.n e.0 ≡ b → Found (e ∷ es)
      by true same =
          let equal : it.n ≡ e.0 = nat_cmp-IsAntisymmetric it.n e.0 (tied (nat_cmp it.n e.0) same) in
          absurd (no_entry it.x (sym (below_none e.0 es low) ∙ ap (λ n. find nat_cmp n es) (sym equal) ∙ it.found))
      by false other = record { n = it.n; x = it.x; found = ap (λ b. cond b (Some e.1) (find nat_cmp it.n es)) other ∙ it.found; passes = it.passes }

  found_of : (es : List (ℕ × X)) → T (is_sorted nat_cmp es) → list_any p (map (λ e. e.1) es) ≡ true → Found es
  found_of [] sorted some = absurd (true≢false (sym some))
  found_of (e ∷ es) sorted some = by (found_of es (second _ _ sorted)) (p e.1) refl some
    where
      by : (list_any p (map (λ e. e.1) es) ≡ true → Found es) → (b : Bool) → p e.1 ≡ b → (b || list_any p (map (λ e. e.1) es)) ≡ true → Found (e ∷ es)
      by rest true passes some = record { n = e.0; x = e.1; found = ap (λ r. cond (is_eq r) (Some e.1) (find nat_cmp e.0 es)) (tied_itself nat_cmp_total e.0); passes = passes }
      by rest false fails some = found_later e es (first _ _ sorted) (rest some)

parent_of : (n : ℕ) (o : Option ℕ) → is_number n o ≡ true → o ≡ Some n
parent_of n None e = absurd (true≢false (sym e))
parent_of n (Some m) e = ap Some (sym (eqb-true n m e))

module _ {E : Type 0} where
  pub record Child (t : Table E) (n : ℕ) : Type 0 where
    pub number : ℕ
    pub held : Held E
    pub is_held : held_at t number ≡ Some held
    pub parent_is : held.parent ≡ Some n

  pub child_of : (t : Table E) (n : ℕ) → has_children t n ≡ true → Child t n
  child_of t n has =
      let it = found_of (λ (held : Held E). is_number n held.parent) (entries t.entries) (entries_sorted t.entries) has in
      record { number = it.n; held = it.x; is_held = get-entries t.entries it.n ∙ it.found; parent_is = parent_of n it.x.parent it.passes }

  pub has_child : (t : Table E) (n : ℕ) → Child t n → has_children t n ≡ true
  has_child t n child =
      any_found (λ (held : Held E). is_number n held.parent) (entries t.entries) child.number child.held
      (sym (get-entries t.entries child.number) ∙ child.is_held)
      (ap (is_number n) child.parent_is ∙ eq-eqb n n refl)
