-- The lines of a text, by the place of the first newline.
use Rattle.std.proofs.Common.{◌≡◌, ℕ, ◌+◌, zero, suc, Bool, true, false, cond, List, [], ◌∷◌, length, take, drop, get_or, refl, ap, ◌∙◌, one-add, add-one, arith}
use Rattle.std.proofs.lemmas.Bool.Decides.{nat_tests}
use Rattle.std.proofs.lemmas.List.Sums.{prefix_len-le-length}
use Rattle.std.specs.Prelude.{not, nat_lt, Some, None}
use Rattle.std.specs.List.{slice_split, onto_first, position, position_or_len, after_first}
use Rattle.std.specs.Option.{unwrap_or}

-- the place of the first that passes, or the length where none does
pub place_or_length : (p : ℕ → Bool) (xs : List ℕ) → unwrap_or (position p xs) (length xs) ≡ position_or_len p xs
place_or_length p xs = elim (nat_lt (position_or_len p xs) (length xs)) as (λ test. nat_lt (position_or_len p xs) (length xs) ≡ test → unwrap_or (cond test (Some (position_or_len p xs)) None) (length xs) ≡ position_or_len p xs) [
  | true ↦ λ within. refl
  | false ↦ λ past. grind (arith, nat_tests, past, prefix_len-le-length (λ x. not (p x)) xs)
] refl

head_onto : (x : ℕ) (parts : List (List ℕ)) → get_or (onto_first x parts) 0 [] ≡ x ∷ get_or parts 0 []
head_onto x [] = refl
head_onto x (part ∷ parts) = refl

tail_onto : (x : ℕ) (parts : List (List ℕ)) (j : ℕ) → get_or (onto_first x parts) (suc j) [] ≡ get_or parts (suc j) []
tail_onto x [] zero = refl
tail_onto x [] (suc j) = refl
tail_onto x (part ∷ parts) j = refl

first_by : (x : ℕ) (xs : List ℕ) (parts : List (List ℕ)) (place : ℕ) → get_or parts 0 [] ≡ take place xs
    → (test : Bool) → get_or (cond test ([] ∷ parts) (onto_first x parts)) 0 [] ≡ take (cond (not test) (1 + place) 0) (x ∷ xs)
first_by x xs parts place is true = refl
first_by x xs parts place is false = rw one-add (head_onto x parts ∙ ap (λ part. x ∷ part) is)

-- the first part ends at the first place that passes
pub first_part : (p : ℕ → Bool) (xs : List ℕ) → get_or (slice_split p xs) 0 [] ≡ take (position_or_len p xs) xs
first_part p [] = refl
first_part p (x ∷ xs) = first_by x xs (slice_split p xs) (position_or_len p xs) (first_part p xs) (p x)

later_by : (split : List ℕ → List (List ℕ)) (x : ℕ) (xs : List ℕ) (place j : ℕ) → get_or (split xs) (suc j) [] ≡ get_or (split (drop (place + 1) xs)) j []
    → (test : Bool) → get_or (cond test ([] ∷ split xs) (onto_first x (split xs))) (suc j) [] ≡ get_or (split (drop (cond (not test) (1 + place) 0 + 1) (x ∷ xs))) j []
later_by split x xs place j is true = refl
later_by split x xs place j is false = rw (one-add, add-one) (tail_onto x (split xs) j ∙ rw add-one at is)

-- the parts after the first are those of what stands after that place
pub later_part : (p : ℕ → Bool) (xs : List ℕ) (j : ℕ) → get_or (slice_split p xs) (suc j) [] ≡ get_or (slice_split p (after_first p xs)) j []
later_part p [] zero = refl
later_part p [] (suc j) = refl
later_part p (x ∷ xs) j = later_by (slice_split p) x xs (position_or_len p xs) j (later_part p xs j) (p x)
