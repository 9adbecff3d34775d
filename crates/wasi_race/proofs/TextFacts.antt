-- The lines of pieces.
use Rattle.std.proofs.Common.{◌≡◌, List, [], ◌∷◌, ◌++◌, refl, ◌∙◌, sym, ap, append_assoc}
use Rattle.wasi_race.specs.History.{Printed}
use Rattle.wasi_race.specs.Races.{piece_line, piece_lines}

pub lines_append : (xs ys : List Printed) → piece_lines (xs ++ ys) ≡ piece_lines xs ++ piece_lines ys
lines_append [] ys = refl
lines_append (x ∷ xs) ys = ap (λ bytes. piece_line x ++ bytes) (lines_append xs ys) ∙ sym (append_assoc (piece_line x) (piece_lines xs) (piece_lines ys))
