-- Why a race did not come to its end.
use Rattle.wasi_race.specs.declared.race.RaceError.{RaceError}
use Rattle.wasi_race.specs.declared.race.RaceError.TheVariants.{SpawnFault, Mismatch, OutOfMemory}

abbrev pub OnSpawnFault : RaceError → Type 0 → Type 0
OnSpawnFault SpawnFault P = P
OnSpawnFault Mismatch P = Unit {0}
OnSpawnFault OutOfMemory P = Unit {0}

abbrev pub OnMismatch : RaceError → Type 0 → Type 0
OnMismatch SpawnFault P = Unit {0}
OnMismatch Mismatch P = P
OnMismatch OutOfMemory P = Unit {0}
