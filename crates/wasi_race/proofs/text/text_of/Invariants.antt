use Rattle.std.proofs.Common.{◌≡◌, ◌++◌, drop}
use Rattle.wasi_race.specs.History.{pieces_in}
use Rattle.wasi_race.specs.Races.{piece_lines}
use Rattle.wasi_race.proofs.text.text_of.Given as goal

abbrev pub invariant-loop-i : goal.invariant-loop-i
invariant-loop-i l = l.text.items ++ piece_lines (pieces_in l.first (drop l.i l.history)) ≡ piece_lines (pieces_in l.first l.history)
