-- The names of streams and trees.
use Rattle.std.specs.Prelude.{ℕ, Bool, false, cond, ◌&&◌, ◌||◌, nat_le, nat_eq, List, [], ◌∷◌, length, Option, Some, None}
use Rattle.std.specs.List.{list_all}
use Rattle.std.specs.Char.{is_ascii_uppercase, is_ascii_alphanumeric}

-- a letter, a digit or `_`
abbrev pub is_name_byte : ℕ → Bool
is_name_byte byte = is_ascii_alphanumeric byte || nat_eq byte 95

-- an upper-case letter, and at most 31 bytes more
abbrev pub is_name : List ℕ → Bool
is_name [] = false
is_name (first ∷ rest) = is_ascii_uppercase first && (nat_le (length rest) 31 && list_all is_name_byte rest)

abbrev pub name_of : List ℕ → Option (List ℕ)
name_of text = cond (is_name text) (Some text) None
