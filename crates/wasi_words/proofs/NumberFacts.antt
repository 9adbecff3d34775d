-- Texts of digits.
use Rattle.std.proofs.Common.{◌≡◌, ℕ, ◌<◌, ◌≤◌, ◌^◌, Bool, true, false, List, [], ◌∷◌, length, Option, Some, None, Result, Ok, Err, refl, ap, arith, ◌∙◌, sym, cond, ◌&&◌}
use Rattle.std.proofs.lemmas.Bool.Decides.{nat_tests}
use Rattle.std.proofs.lemmas.Fmt.{IsAscii-from_digits}
use Rattle.std.proofs.lemmas.Str.{IsUtf8-from_ascii}
use Rattle.std.specs.Prelude.{nat_lt, nat_le, nat_eq}
use Rattle.std.specs.Char.{is_ascii_digit, digit_value}
use Rattle.std.specs.List.{list_all}
use Rattle.std.specs.Result.{result_ok}
use Rattle.std.specs.Str.{IsUtf8}
use Rattle.std.specs.Str.Parse.{AllDigits, ParsesUnsigned, digits_value, without_leading_plus}
use Rattle.wasi_words.specs.Fields.{number_of, u128_of}

both_true : (a b : Bool) → (a && b) ≡ true → (a ≡ true) × (b ≡ true)
both_true true b is = (refl, is)
both_true false b is = absurd (cc)

digit : (byte : ℕ) → is_ascii_digit byte ≡ true → digit_value byte < 10
digit byte is = grind (arith, nat_tests)

all_digits : (text : List ℕ) → list_all is_ascii_digit text ≡ true → AllDigits 10 text
all_digits [] is = tt
all_digits (byte ∷ text) is = let both = both_true (is_ascii_digit byte) (list_all is_ascii_digit text) is in (digit byte both.0, all_digits text both.1)

pub digits_utf8 : (text : List ℕ) → list_all is_ascii_digit text ≡ true → IsUtf8 text
digits_utf8 text is = IsUtf8-from_ascii text (IsAscii-from_digits text (all_digits text is))

no_plus : (text : List ℕ) → list_all is_ascii_digit text ≡ true → without_leading_plus text ≡ text
no_plus [] is = refl
no_plus (byte ∷ text) is = let both = both_true (is_ascii_digit byte) (list_all is_ascii_digit text) is in let ne : nat_eq byte 43 ≡ false = grind (arith, nat_tests, both.0) in rw ne refl

-- a number of so many digits at most, of which so many bits are the most
abbrev decimal : ℕ → ℕ → List ℕ → Option ℕ
decimal most bits text = cond (nat_le 1 (length text) && nat_le (length text) most && list_all is_ascii_digit text && nat_lt (digits_value 10 text) (2 ^ bits)) (Some (digits_value 10 text)) None

decimal_is : (most bits : ℕ) (text : List ℕ) → list_all is_ascii_digit text ≡ true → 0 < length text → length text ≤ most → decimal most bits text ≡ cond (nat_lt (digits_value 10 text) (2 ^ bits)) (Some (digits_value 10 text)) None
decimal_is most bits text digits some short =
    let low : nat_le 1 (length text) ≡ true = grind (arith, nat_tests) in
    let high : nat_le (length text) most ≡ true = grind (arith, nat_tests) in
    rw (low, high, digits) refl

-- what `parse` says of such digits
decimal_parsed : {E : Type 0} (most bits : ℕ) (text : List ℕ) (result : Result ℕ E) → list_all is_ascii_digit text ≡ true → 0 < length text → length text ≤ most → ParsesUnsigned bits 10 text result → result_ok result ≡ decimal most bits text
decimal_parsed most bits text (Ok number) digits some short is =
    let plain = no_plus text digits in
    let value : number ≡ digits_value 10 text = is.1 ∙ ap (digits_value 10) plain in
    let small : digits_value 10 text < 2 ^ bits = rw plain at is.0.1 in
    let fits : nat_lt (digits_value 10 text) (2 ^ bits) ≡ true = grind (arith, nat_tests) in
    sym (decimal_is most bits text digits some short ∙ rw (fits, ← value) refl)
decimal_parsed most bits text (Err error) digits some short not_one =
    let plain = no_plus text digits in
    sym (decimal_is most bits text digits some short ∙ past (nat_lt (digits_value 10 text) (2 ^ bits)) refl)
  where
    past : (test : Bool) → nat_lt (digits_value 10 text) (2 ^ bits) ≡ test → cond test (Some (digits_value 10 text)) None ≡ None
    past true fits = absurd (not_one (rw (no_plus text digits) ((some, all_digits text digits), grind (arith, nat_tests, fits))))
    past false fits = refl

-- 1 to 20 digits
pub number_parsed : {E : Type 0} (text : List ℕ) (result : Result ℕ E) → list_all is_ascii_digit text ≡ true → 0 < length text → length text ≤ 20 → ParsesUnsigned 64 10 text result → result_ok result ≡ number_of text
number_parsed = decimal_parsed 20 64

-- 1 to 39 digits
pub u128_parsed : {E : Type 0} (text : List ℕ) (result : Result ℕ E) → list_all is_ascii_digit text ≡ true → 0 < length text → length text ≤ 39 → ParsesUnsigned 128 10 text result → result_ok result ≡ u128_of text
u128_parsed = decimal_parsed 39 128
