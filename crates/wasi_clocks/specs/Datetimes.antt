-- Times with whole seconds since the epoch, and their ranges.
use Rattle.std.specs.Prelude.{ℕ, ℤ, pos, negsuc, ◌^◌, ◌+ℤ◌, ◌*ℤ◌, nat_lt, if◌then◌else◌, List, codes, Option, Some, None, Result, Ok, Err}
use Rattle.wasi_clocks.specs.declared.datetimes.Datetime.{Datetime}
use Rattle.wasi_clocks.specs.declared.datetimes.P2Datetime.{P2Datetime}
use Rattle.wasi_clocks.specs.declared.datetimes.DatetimeError.{DatetimeError}
use Rattle.wasi_clocks.specs.declared.wall_times.Moment.{Moment}
use Rattle.wasi_clocks.specs.WallTimes.{whole_seconds, nanoseconds_past}

-- where the seconds, or one less than their distance below 0, are below 2 ^ 63
abbrev pub datetime_at : ℤ → ℕ → Option Datetime
datetime_at (pos s) n =
    if nat_lt s (2 ^ 63) then Some (record { seconds = pos s; nanoseconds = n }) else None
datetime_at (negsuc s) n =
    if nat_lt s (2 ^ 63) then Some (record { seconds = negsuc s; nanoseconds = n }) else None

-- where the seconds are not negative, and below 2 ^ 64
abbrev pub p2_datetime_at : ℤ → ℕ → Option P2Datetime
p2_datetime_at (pos s) n =
    if nat_lt s (2 ^ 64) then Some (record { seconds = s; nanoseconds = n }) else None
p2_datetime_at (negsuc s) n = None

-- a time, or the error
abbrev pub or_error : {T : Type 0} → Option T → Result T DatetimeError
or_error (Some time) = Ok time
or_error None = Err (record {})

abbrev pub moment_to_datetime : Moment → Result Datetime DatetimeError
moment_to_datetime moment = or_error (datetime_at (whole_seconds moment) (nanoseconds_past moment))

abbrev pub moment_to_p2 : Moment → Result P2Datetime DatetimeError
moment_to_p2 moment = or_error (p2_datetime_at (whole_seconds moment) (nanoseconds_past moment))

abbrev pub datetime_to_p2 : Datetime → Result P2Datetime DatetimeError
datetime_to_p2 time = or_error (p2_datetime_at time.seconds time.nanoseconds)

abbrev pub p2_to_datetime : P2Datetime → Result Datetime DatetimeError
p2_to_datetime time = or_error (datetime_at (pos time.seconds) time.nanoseconds)

-- the nanoseconds since the epoch
abbrev pub time_at : ℤ → ℕ → ℤ
time_at seconds nanoseconds = (seconds *ℤ pos 1000000000) +ℤ pos nanoseconds

abbrev pub time_of_datetime : Datetime → ℤ
time_of_datetime datetime = time_at datetime.seconds datetime.nanoseconds

abbrev pub datetime_error_text : List ℕ
datetime_error_text = codes "couldn't represent time as a WASI `Datetime`"
