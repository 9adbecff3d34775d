-- The parts of a text.
use Rattle.std.specs.Prelude.{ℕ, List, [], Option, Some, None, nat_eq}
use Rattle.std.specs.List.{slice_split}

-- the parts of what is left of a text, if anything is
abbrev pub parts_in : ℕ → Option (List ℕ) → List (List ℕ)
parts_in separator None = []
parts_in separator (Some rest) = slice_split (λ byte. nat_eq byte separator) rest
