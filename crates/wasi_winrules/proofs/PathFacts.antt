-- What is kept of a path whose last separators are cut off.
use Rattle.std.proofs.Common.{◌≡◌, ℕ, zero, suc, ◌+◌, ◌-◌, ◌<◌, ◌≤◌, true, false, List, [], ◌∷◌, ◌++◌, length, get_or, take, drop, sym, ◌∙◌, ap, subst, inl, inr, ◌⊎◌, arith, length-append, length-take, length-drop}
use Rattle.std.proofs.lemmas.Bool.{or_cases, eqb-true, both_ways, cases_lt}
use Rattle.std.proofs.lemmas.List.Prefix.{end_from_reads, front_fits}
use Rattle.std.proofs.lemmas.List.{take-append-drop, get_or-drop}
use Rattle.std.proofs.lemmas.Grind.{common_steps}
use Rattle.std.specs.List.{AllWithin}
use Rattle.wasi_winrules.specs.Paths.{is_separator, IsFront, HasTrailingSlash, IsBare, IsStripped}

abbrev last_of : List ℕ → ℕ
last_of path = get_or path (length path - 1) 0

lone : (path : List ℕ) (i : ℕ) → i < 1 → get_or path (length path - 1 + i) 0 ≡ get_or (last_of path ∷ []) i 0
lone path zero h = ap (λ n. get_or path n 0) (omega arith)
lone path (suc i) h = absurd (omega arith)

ends_in_last : (path : List ℕ) → 0 < length path → path ≡ take (length path - 1) path ++ (last_of path ∷ [])
ends_in_last path h = end_from_reads 0 path (last_of path ∷ []) (omega arith) (lone path)

-- a separator at the end is a trailing one
trailing : (path : List ℕ) → 0 < length path → is_separator (last_of path) ≡ true → HasTrailingSlash path
trailing path h parts =
    elim (or_cases _ _ parts) [
      | inl e ↦ inl (_, subst (λ unit. path ≡ take (length path - 1) path ++ (unit ∷ [])) (eqb-true _ _ e) (ends_in_last path h))
      | inr e ↦ inr (_, subst (λ unit. path ≡ take (length path - 1) path ++ (unit ∷ [])) (eqb-true _ _ e) (ends_in_last path h))
    ]

last_of-append : (front : List ℕ) (unit : ℕ) → last_of (front ++ (unit ∷ [])) ≡ unit
last_of-append front unit = grind (arith, common_steps)

not_trailing : (path : List ℕ) → is_separator (last_of path) ≡ false → HasTrailingSlash path → ⊥
not_trailing path plain (inl ends) = both_ways _ plain (ap (λ p. is_separator (last_of p)) ends.1 ∙ ap is_separator (last_of-append ends.0 47))
not_trailing path plain (inr ends) = both_ways _ plain (ap (λ p. is_separator (last_of p)) ends.1 ∙ ap is_separator (last_of-append ends.0 92))

last_of-take : (path : List ℕ) (n : ℕ) → n ≤ length path → 0 < n → last_of (take n path) ≡ get_or path (n - 1) 0
last_of-take path n h some = grind (arith, common_steps)

front-is : (front path : List ℕ) → IsFront front path → (i : ℕ) → i < length front → get_or front i 0 ≡ get_or path i 0
front-is front path (rest, e) i h = grind (arith, common_steps, e)

not_trailing_empty : HasTrailingSlash [] → ⊥
not_trailing_empty (inl ends) = absurd (omega (arith, ap length ends.1, length-append ends.0 (47 ∷ [])))
not_trailing_empty (inr ends) = absurd (omega (arith, ap length ends.1, length-append ends.0 (92 ∷ [])))

bare_at : (path : List ℕ) (n : ℕ) → n ≤ length path → (n ≤ 1) ⊎ (is_separator (get_or path (n - 1) 0) ≡ false) → IsBare (take n path)
bare_at path zero within before = inl not_trailing_empty
bare_at path (suc zero) within before = inr (omega (arith, length-take 1 path))
bare_at path (suc (suc n)) within (inl short) = absurd (omega arith)
bare_at path (suc (suc n)) within (inr plain) = inl (not_trailing _ (ap is_separator (last_of-take path (suc (suc n)) within (omega arith)) ∙ plain))

-- a longer front has a separator at its end, and is more than that
longer_not_bare : (path : List ℕ) (n : ℕ) → (0 < length path → 0 < n) → AllWithin (λ unit. is_separator unit ≡ true) path n (length path) → (front : List ℕ) → IsFront front path → n < length front → IsBare front → ⊥
longer_not_bare path n some after front is longer (inl plain) =
    let fits : length front ≤ length path = front_fits path front is.0 is.1 in
    plain (trailing front (omega arith) (ap is_separator (front-is front path is (length front - 1) (omega arith)) ∙ after (length front - 1) 0 (omega arith) (omega arith)))
longer_not_bare path n some after front is longer (inr lone) =
    let fits : length front ≤ length path = front_fits path front is.0 is.1 in
    let more : 0 < n = some (omega arith) in
    omega arith

-- the path up to n, where separators follow and none stands before
pub stripped : (path : List ℕ) (n : ℕ) → n ≤ length path → (0 < length path → 0 < n) → AllWithin (λ unit. is_separator unit ≡ true) path n (length path) → (n ≤ 1) ⊎ (is_separator (get_or path (n - 1) 0) ≡ false) → IsStripped path (take n path)
stripped path n within some after before = record {
  bare = bare_at path n within before;
  cut = (drop n path, sym (take-append-drop n path), λ k d h. subst (λ unit. is_separator unit ≡ true) (sym (get_or-drop n path k d)) (after (n + k) d (omega arith) (omega (arith, length-drop n path))));
  longest = λ front is bare. elim (cases_lt n (length front)) [
    | inl longer ↦ absurd (longer_not_bare path n some after front is longer bare)
    | inr fits ↦ omega (arith, length-take n path)
  ];
}
