-- Times: whole seconds, and nanoseconds below a second.
use Rattle.std.proofs.Common.{ltb-true}
use Rattle.std.specs.Prelude.{◌≡◌, ℕ, Bool, true, false, nat_lt, List, Option, Some, None, refl}
use Rattle.std.specs.Option.{option_and_then}
use Rattle.wasi_clocks.specs.declared.wall_times.WallTime.{WallTime}
use Rattle.wasi_script.specs.Fields.{number_of, two_fields}

abbrev pub time_by : (seconds nanoseconds : ℕ) (is_below : Bool) → nat_lt nanoseconds 1000000000 ≡ is_below → Option WallTime
time_by seconds nanoseconds true is = Some (record { seconds = seconds; nanoseconds = nanoseconds; in_second = ltb-true nanoseconds 1000000000 is })
time_by seconds nanoseconds false is = None

abbrev pub wall_time : ℕ → ℕ → Option WallTime
wall_time seconds nanoseconds = time_by seconds nanoseconds (nat_lt nanoseconds 1000000000) refl

-- two fields, and no more
abbrev pub time_of : List (List ℕ) → Option WallTime
time_of fields = option_and_then (λ both. wall_time both.0 both.1) (two_fields number_of number_of fields)
