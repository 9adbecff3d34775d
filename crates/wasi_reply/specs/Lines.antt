-- The lines of a text.
use Rattle.std.specs.Prelude.{ℕ, nat_eq, List}
use Rattle.std.specs.List.{slice_split}

-- what stands before each 0x0A, and what stands after the last
abbrev pub lines_in : List ℕ → List (List ℕ)
lines_in text = slice_split (λ byte. nat_eq byte 10) text
