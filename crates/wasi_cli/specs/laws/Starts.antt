-- How a poll begins, by cases, for laws of other crates.
use Rattle.wasi_cli.specs.declared.outcome.Start.{Start}
use Rattle.wasi_cli.specs.declared.outcome.Start.TheVariants as start
use Rattle.wasi_cli.specs.declared.outcome.Outcome.{Outcome}
use Rattle.wasi_cli.specs.declared.outcome.Outcome.TheVariants.{Waits}

-- a poll that has the turn, and an operation that waits
abbrev pub runs : Start
runs = start.Runs

abbrev pub waits : {A : Type 0} → Outcome A
waits = Waits

pub each_start : (P : Start → Type 0) → P start.Ended → P start.Waits → P start.Runs → (s : Start) → P s
each_start P ended waits runs start.Ended = ended
each_start P ended waits runs start.Waits = waits
each_start P ended waits runs start.Runs = runs
