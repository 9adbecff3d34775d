-- The fields of a line: its words, which single spaces part, and the numbers among them.
use Rattle.std.specs.Prelude.{ℕ, ◌^◌, Bool, true, false, cond, ◌&&◌, nat_lt, nat_le, nat_eq, List, [], ◌∷◌, length, Option, Some, None}
use Rattle.std.specs.List.{slice_split, list_all}
use Rattle.std.specs.Option.{option_and_then, option_map}
use Rattle.std.specs.Char.{is_ascii_digit}
use Rattle.std.specs.Str.{bytes_eq}
use Rattle.std.specs.Str.Parse.{digits_value}

-- The lines of a script: what stands between its bytes 0x0A. After the last of these, nothing is an empty line.
abbrev pub lines_of : List ℕ → List (List ℕ)
lines_of bytes = slice_split (λ byte. nat_eq byte 10) bytes

abbrev pub words_of : List ℕ → List (List ℕ)
words_of text = slice_split (λ byte. nat_eq byte 32) text

-- a number: 1 to 20 decimal digits, below 2 ^ 64
abbrev pub is_number : List ℕ → Bool
is_number text = nat_le 1 (length text) && nat_le (length text) 20 && list_all is_ascii_digit text && nat_lt (digits_value 10 text) (2 ^ 64)

abbrev pub number_of : List ℕ → Option ℕ
number_of text = cond (is_number text) (Some (digits_value 10 text)) None

-- a number of 1 to 39 decimal digits, below 2 ^ 128
abbrev pub is_u128 : List ℕ → Bool
is_u128 text = nat_le 1 (length text) && nat_le (length text) 39 && list_all is_ascii_digit text && nat_lt (digits_value 10 text) (2 ^ 128)

abbrev pub u128_of : List ℕ → Option ℕ
u128_of text = cond (is_u128 text) (Some (digits_value 10 text)) None

-- a number within limits
abbrev pub number_between : ℕ → ℕ → List ℕ → Option ℕ
number_between least most text = option_and_then (λ number. cond (nat_le least number && nat_le number most) (Some number) None) (number_of text)

-- no field more
abbrev pub is_at_end : List (List ℕ) → Bool
is_at_end [] = true
is_at_end (field ∷ fields) = false

-- one field, and no more
abbrev pub only_field : List (List ℕ) → Option (List ℕ)
only_field [] = None
only_field (field ∷ fields) = cond (is_at_end fields) (Some field) None

-- a field, and what the fields after it stand for then
abbrev pub with_first : {A B : Type 0} → (List ℕ → Option A) → (A → List (List ℕ) → Option B) → List (List ℕ) → Option B
with_first read rest [] = None
with_first read rest (field ∷ fields) = option_and_then (λ it. rest it fields) (read field)

-- one field, and no more
abbrev pub with_last : {A B : Type 0} → (List ℕ → Option A) → (A → B) → List (List ℕ) → Option B
with_last read make fields = option_map make (option_and_then read (only_field fields))

-- A form is a first word, and what the fields after it stand for, if anything.
abbrev pub Form : Type 0 → Type 0
Form A = List ℕ × (List (List ℕ) → Option A)

-- what words stand for, by the form that their first word names
abbrev pub meaning_by : {A : Type 0} → List (Form A) → List (List ℕ) → Option A
meaning_by [] words = None
meaning_by (form ∷ forms) [] = None
meaning_by (form ∷ forms) (word ∷ fields) = cond (bytes_eq word form.0) (form.1 fields) (meaning_by forms (word ∷ fields))
