-- The rows of a map, with the bytes of each key.
use Rattle.std.specs.Prelude.{ℕ, List, [], ◌∷◌, Vec}

abbrev pub rows_of : {A V : Type 0} → List (Vec ℕ A × V) → List (List ℕ × V)
rows_of [] = []
rows_of (row ∷ rows) = (row.0.items, row.1) ∷ rows_of rows
