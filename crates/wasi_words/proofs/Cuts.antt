-- A text, cut at the first element that passes a test.
use Rattle.std.proofs.Common.{◌≡◌, ℕ, ◌+◌, ◌<◌, ◌≤◌, Bool, true, false, List, [], ◌∷◌, length, take, drop, get_or, Option, Some, None, refl, ap, arith, ◌∙◌, cond}
use Rattle.std.proofs.lemmas.Grind.{common_steps}
use Rattle.std.proofs.lemmas.Bool.Decides.{nat_tests}
use Rattle.std.specs.Prelude.{nat_lt, nat_eq}
use Rattle.std.specs.List.{slice_split, onto_first, position, position_or_len}
use Rattle.std.proofs.lemmas.List.Splits.{slice_split_first, slice_split-cons_no}
use Rattle.std.proofs.lemmas.List.Sums.{position_or_len_is}
use Rattle.memchr.specs.Find.{is_byte, IsFirstByte}

some_of_cond : (test : Bool) (x y : ℕ) → cond test (Some x) None ≡ Some y → (test ≡ true) × (x ≡ y)
some_of_cond true x y is = (refl, cc)
some_of_cond false x y is = absurd (cc)

none_of_cond : (test : Bool) (x : ℕ) → cond test (Some x) None ≡ None → test ≡ false
none_of_cond true x is = absurd (cc)
none_of_cond false x is = refl

-- where an element passes
pub slice_split_found : (p : ℕ → Bool) (xs : List ℕ) (place : ℕ) → position p xs ≡ Some place → slice_split p xs ≡ take place xs ∷ slice_split p (drop (place + 1) xs)
slice_split_found p xs place is =
    let found = some_of_cond (nat_lt (position_or_len p xs) (length xs)) (position_or_len p xs) place is in
    let within : position_or_len p xs < length xs = grind (arith, nat_tests, found.0) in
    rw (← found.1) (slice_split_first p xs 0 within)

whole : (p : ℕ → Bool) (xs : List ℕ) → length xs ≤ position_or_len p xs → slice_split p xs ≡ xs ∷ []
whole p [] past = refl
whole p (x ∷ xs) past = elim (p x) as (λ test. p x ≡ test → slice_split p (x ∷ xs) ≡ (x ∷ xs) ∷ []) [
  | true ↦ λ is. absurd (grind (arith, common_steps, is))
  | false ↦ λ is. slice_split-cons_no p x xs is ∙ ap (onto_first x) (whole p xs (grind (arith, common_steps, is)))
] refl

-- where none does
pub slice_split_absent : (p : ℕ → Bool) (xs : List ℕ) → position p xs ≡ None → slice_split p xs ≡ xs ∷ []
slice_split_absent p xs is =
    let past = none_of_cond (nat_lt (position_or_len p xs) (length xs)) (position_or_len p xs) is in
    whole p xs (grind (arith, nat_tests, past))

-- an element that does not pass, as a test
fails : (b : Bool) → ¬ (b ≡ true) → b ≡ false
fails true not = absurd (not refl)
fails false not = refl

below : (n m : ℕ) → n < m → nat_lt n m ≡ true
below n m lt = grind (arith, nat_tests, lt)

not_below : (n : ℕ) → nat_lt n n ≡ false
not_below n = grind (arith, nat_tests)

-- the first place that a search of bytes finds
pub found_is_position : (separator : ℕ) (text : List ℕ) (found : Option ℕ) → IsFirstByte (is_byte separator) text found → found ≡ position (λ byte. nat_eq byte separator) text
found_is_position separator text None nowhere =
    let past = position_or_len_is (λ byte. nat_eq byte separator) text (length text) 0 (omega arith) (λ k lt. fails (nat_eq (get_or text k 0) separator) (nowhere k (omega arith) lt)) (λ lt. absurd (omega (arith, lt))) in
    rw past (rw (not_below (length text)) refl)
found_is_position separator text (Some place) is =
    let at = position_or_len_is (λ byte. nat_eq byte separator) text place 0 (omega (arith, is.0.high)) (λ k lt. fails (nat_eq (get_or text k 0) separator) (is.0.before k (omega arith) lt)) (λ lt. is.1) in
    rw at (rw (below place (length text) is.0.high) refl)
