use Rattle.std.proofs.Common.{◌≡◌, drop}
use Rattle.wasi_race.specs.History.{last_by, last_in}
use Rattle.wasi_race.proofs.outcome.last_of.Given as goal

abbrev pub invariant-loop-i : goal.invariant-loop-i
invariant-loop-i l = last_by l.last (drop l.i l.history) ≡ last_in l.history
