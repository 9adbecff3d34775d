-- How the rows stand for a table.
use Rattle.std.proofs.Common.{◌≡◌, ℕ, ◌+◌, ◌≤◌, Bool, true, false, cond, T, List, [], ◌∷◌, length, map, Option, Some, None, refl, suc, lit≤, zero-add, sym, ◌∙◌, ap, arith, true≢false}
use Rattle.std.proofs.lemmas.Bool.{eqb-true, eqb-false, eq-eqb, ne_eqb, lt-ltb}
use Rattle.std.proofs.lemmas.List.Sums.{sum_by-cons}
use Rattle.std.specs.List.{list_any, AllByRecursion}
use Rattle.std.specs.List.Sorted.{IsStrictlySortedBy}
use Rattle.std.specs.Prelude.{eqb, nat_lt, ◌||◌, ◌&&◌}
use Rattle.std.specs.declared.cmp.Ordering.TheVariants.{Less}
use Rattle.std.specs.Ordering.{nat_cmp, is_lt}
use Rattle.std.specs.Option.{unwrap_or}
use Rattle.std.specs.Cmp.{nat_cmp_total}
use Rattle.std.specs.Map.{keys_of, values_of, lookup, set_value}
use Rattle.std.specs.BTreeMap.{is_at}
use Rattle.std.specs.FinMap as finite
use Rattle.std.specs.FinMap.{find, is_sorted, nat_cmp-IsAntisymmetric, get-from_sorted, entries-from_sorted, len-entries, same_map}
use Rattle.std.specs.FinMap.Entries.{below_all}
use Rattle.wasi_table.specs.declared.rows.Row.{Row}
use Rattle.wasi_table.specs.Table.{Held, has_children, is_number}
use Rattle.wasi_table.specs.laws.Kept.{is_eq-nat_cmp, held-insert, held-remove}
use Rattle.wasi_table.specs.Rows.{held_in, held_rows, table_of, row_at, names, named}

both : (a b : Bool) → a ≡ true → T b → T (a && b)
both true b p q = q
both false b p q = absurd (true≢false (sym p))

pub turned : (n q : ℕ) → is_at (nat_cmp n) q ≡ eqb q n
turned n q = is_eq-nat_cmp n q ∙ swapped n q
  where
    swapped : (a b : ℕ) → eqb a b ≡ eqb b a
    swapped a b = by (eqb a b) refl
      where
        by : (t : Bool) → eqb a b ≡ t → t ≡ eqb b a
        by true e = sym (eq-eqb b a (sym (eqb-true a b e)))
        by false e = sym (ne_eqb b a (λ same. eqb-false a b e (sym same)))

pub some_inj : {A : Type 0} {x y : A} → Some x ≡ Some y → x ≡ y
some_inj {x = x} e = ap (λ o. unwrap_or o x) e

module _ {E : Type 0} where
  abbrev pub held_opt : Option (Row E) → Option (Held E)
  held_opt None = None
  held_opt (Some row) = Some (held_in row)

  held_cond : (b : Bool) (row : Row E) (o : Option (Row E)) (h : Option (Held E)) → h ≡ held_opt o → cond b (Some (held_in row)) h ≡ held_opt (cond b (Some row) o)
  held_cond true row o h e = refl
  held_cond false row o h e = e

  find-held : (es : List (ℕ × Row E)) (q : ℕ) → find nat_cmp q (held_rows es) ≡ held_opt (row_at es q)
  find-held [] q = refl
  find-held (e ∷ es) q = held_cond (is_at (nat_cmp q) e.0) e.1 (row_at es q) _ (find-held es q)

  below : (x : ℕ) (es : List (ℕ × Row E)) → AllByRecursion (λ y. nat_cmp x y ≡ Less) (keys_of es) → T (below_all nat_cmp x (held_rows es))
  below x [] h = tt
  below x (e ∷ es) h = both (is_lt (nat_cmp x e.0)) _ (ap is_lt h.0) (below x es h.1)

  pub sorted_rows : (es : List (ℕ × Row E)) → IsStrictlySortedBy nat_cmp (keys_of es) → T (is_sorted nat_cmp (held_rows es))
  unfolding IsStrictlySortedBy
  sorted_rows [] h = tt
  sorted_rows (e ∷ es) h = and_both _ _ (below e.0 es h.0) (sorted_rows es h.1)
    where
      and_both : (a b : Bool) → T a → T b → T (a && b)
      and_both true b p q = q
      and_both false b p q = absurd p

  -- a look-up in the table that the rows make
  pub held_at-rows : (es : List (ℕ × Row E)) → IsStrictlySortedBy nat_cmp (keys_of es) → (q : ℕ)
      → finite.get (finite.from_sorted {R = nat_cmp} (held_rows es)) q ≡ held_opt (row_at es q)
  held_at-rows es sorted q = get-from_sorted nat_cmp (held_rows es) q (sorted_rows es sorted) ∙ find-held es q

  length-held_rows : (es : List (ℕ × Row E)) → length (held_rows es) ≡ length es
  length-held_rows [] = refl
  length-held_rows (e ∷ es) = ap (λ n. suc n) (length-held_rows es)

  pub len-rows : (es : List (ℕ × Row E)) → IsStrictlySortedBy nat_cmp (keys_of es) → finite.len (finite.from_sorted {R = nat_cmp} (held_rows es)) ≡ length es
  len-rows es sorted = len-entries _ ∙ ap length (entries-from_sorted nat_cmp (held_rows es) (sorted_rows es sorted)) ∙ length-held_rows es

  keys-held_rows : (es : List (ℕ × Row E)) → map (λ e. e.0) (held_rows es) ≡ keys_of es
  keys-held_rows [] = refl
  keys-held_rows (e ∷ es) = ap (λ ks. e.0 ∷ ks) (keys-held_rows es)

  pub keys-rows : (es : List (ℕ × Row E)) → IsStrictlySortedBy nat_cmp (keys_of es) → finite.keys (finite.from_sorted {R = nat_cmp} (held_rows es)) ≡ keys_of es
  keys-rows es sorted = ap (map (λ e. e.0)) (entries-from_sorted nat_cmp (held_rows es) (sorted_rows es sorted)) ∙ keys-held_rows es

  -- rows that differ at one number
  pub rows-insert : (es fs : List (ℕ × Row E)) (n : ℕ) (row : Row E) → IsStrictlySortedBy nat_cmp (keys_of es) → IsStrictlySortedBy nat_cmp (keys_of fs)
      → ((q : ℕ) → row_at fs q ≡ cond (is_at (nat_cmp n) q) (Some row) (row_at es q))
      → finite.from_sorted {R = nat_cmp} (held_rows fs) ≡ finite.insert (finite.from_sorted (held_rows es)) n (held_in row)
  rows-insert es fs n row s t is = same_map nat_cmp_total nat_cmp-IsAntisymmetric _ _ (λ q.
      held_at-rows fs t q ∙ ap held_opt (is q) ∙ at (is_at (nat_cmp n) q) q ∙ ap (λ b. cond b (Some (held_in row)) (finite.get (finite.from_sorted {R = nat_cmp} (held_rows es)) q)) (turned n q) ∙ sym (held-insert _ n (held_in row) q))
    where
      at : (b : Bool) (q : ℕ) → held_opt (cond b (Some row) (row_at es q)) ≡ cond b (Some (held_in row)) (finite.get (finite.from_sorted {R = nat_cmp} (held_rows es)) q)
      at true q = refl
      at false q = sym (held_at-rows es s q)

  pub rows-remove : (es fs : List (ℕ × Row E)) (n : ℕ) → IsStrictlySortedBy nat_cmp (keys_of es) → IsStrictlySortedBy nat_cmp (keys_of fs)
      → ((q : ℕ) → row_at fs q ≡ cond (is_at (nat_cmp n) q) None (row_at es q))
      → finite.from_sorted {R = nat_cmp} (held_rows fs) ≡ finite.remove (finite.from_sorted (held_rows es)) n
  rows-remove es fs n s t is = same_map nat_cmp_total nat_cmp-IsAntisymmetric _ _ (λ q.
      held_at-rows fs t q ∙ ap held_opt (is q) ∙ at (is_at (nat_cmp n) q) q ∙ ap (λ b. cond b None (finite.get (finite.from_sorted {R = nat_cmp} (held_rows es)) q)) (turned n q) ∙ sym (held-remove _ n q))
    where
      at : (b : Bool) (q : ℕ) → held_opt (cond b None (row_at es q)) ≡ cond b None (finite.get (finite.from_sorted {R = nat_cmp} (held_rows es)) q)
      at true q = refl
      at false q = sym (held_at-rows es s q)

  -- ---- children
  pub names_any : (es : List (ℕ × Row E)) (n : ℕ) → list_any (λ (held : Held E). is_number n held.parent) (map (λ e. e.1) (held_rows es)) ≡ nat_lt 0 (named es n)
  names_any [] n = refl
  names_any (e ∷ es) n = one_more (is_number n e.1.parent) _ _ (names_any es n) ∙ ap (nat_lt 0) (sym (sum_by-cons (names n) e.1 (values_of es)))
    where
      one_more : (b c : Bool) (k : ℕ) → c ≡ nat_lt 0 k → (b || c) ≡ nat_lt 0 (cond b 1 0 + k)
      one_more true c k e = sym (lt-ltb 0 (1 + k) (omega arith))
      one_more false c k e = e ∙ ap (nat_lt 0) (sym (zero-add k))

  pub has_children-rows : (es : List (ℕ × Row E)) (freed : List ℕ) (next capacity n : ℕ) → IsStrictlySortedBy nat_cmp (keys_of es)
      → has_children (table_of es freed next capacity) n ≡ nat_lt 0 (named es n)
  has_children-rows es freed next capacity n sorted =
      ap (λ entries. list_any (λ (held : Held E). is_number n held.parent) (map (λ e. e.1) entries)) (entries-from_sorted nat_cmp (held_rows es) (sorted_rows es sorted))
      ∙ names_any es n

  -- no more rows name a number than there are
  pub named-le : (es : List (ℕ × Row E)) (n : ℕ) → named es n ≤ length es
  named-le [] n = lit≤ tt
  named-le (e ∷ es) n =
      let e1 = sum_by-cons (names n) e.1 (values_of es) in
      let le : names n e.1 ≤ 1 = one (is_number n e.1.parent) in
      let rest = named-le es n in omega (arith, e1, le, rest)
    where
      one : (b : Bool) → cond b 1 0 ≤ 1
      one true = lit≤ tt
      one false = lit≤ tt

  -- a row whose count alone changed
  pub held_rows-set_value : (test : ℕ → Bool) (es : List (ℕ × Row E)) (old new : Row E) → lookup test es ≡ Some old → held_in new ≡ held_in old
      → held_rows (set_value test es new) ≡ held_rows es
  held_rows-set_value test [] old new found same = refl
  held_rows-set_value test (e ∷ es) old new found same = at (test e.0) found (λ later. held_rows-set_value test es old new later same)
    where
      at : (b : Bool) → cond b (Some e.1) (lookup test es) ≡ Some old → (lookup test es ≡ Some old → held_rows (set_value test es new) ≡ held_rows es)
          → held_rows (cond b ((e.0, new) ∷ es) (e ∷ set_value test es new)) ≡ held_rows (e ∷ es)
      at true is rest = ap (λ h. (e.0, h) ∷ held_rows es) (same ∙ ap held_in (sym (some_inj is)))
      at false is rest = ap (λ hs. (e.0, held_in e.1) ∷ hs) (rest is)
