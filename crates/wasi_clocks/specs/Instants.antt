-- Times of WASI 0.3.
use Rattle.std.specs.Prelude.{ℕ, ℤ, pos, ◌/◌, ◌%◌, ◌^◌, ◌+ℤ◌, nat_lt, if◌then◌else◌, Option, Result, Ok, Err}
use Rattle.wasi_base.specs.declared.trap_text.TrapText.{TrapText}
use Rattle.wasi_base.specs.declared.trap_text.TrapText.TheVariants.{NumberOutOfRange}
use Rattle.wasi_clocks.specs.declared.datetimes.Datetime.{Datetime}
use Rattle.wasi_clocks.specs.declared.instants.Instant.{Instant}
use Rattle.wasi_clocks.specs.declared.wall_times.WallTime.{WallTime}
use Rattle.wasi_clocks.specs.Datetimes.{datetime_at, time_at}
use Rattle.wasi_clocks.specs.WallTimes.{nanoseconds_of}

abbrev pub instant_to_datetime : Instant → Datetime
instant_to_datetime instant = record { seconds = instant.seconds; nanoseconds = instant.nanoseconds }

abbrev pub datetime_to_instant : Datetime → Instant
datetime_to_instant time = record { seconds = time.seconds; nanoseconds = time.nanoseconds }

-- the nanoseconds since the epoch
abbrev pub time_of_instant : Instant → ℤ
time_of_instant instant = time_at instant.seconds instant.nanoseconds

-- whole seconds of nanoseconds join the seconds
abbrev pub carried : Instant → Option Datetime
carried instant =
    datetime_at (instant.seconds +ℤ pos (instant.nanoseconds / 1000000000)) (instant.nanoseconds % 1000000000)

-- what a wall clock reads, where its seconds are below 2 ^ 63
abbrev pub instant_of_wall : WallTime → Result Instant TrapText
instant_of_wall wall =
    if nat_lt wall.seconds (2 ^ 63)
    then Ok (record { seconds = pos wall.seconds; nanoseconds = wall.nanoseconds })
    else Err NumberOutOfRange

-- a resolution in nanoseconds, where they are below 2 ^ 64
abbrev pub nanoseconds_in : WallTime → Result ℕ TrapText
nanoseconds_in res = if nat_lt (nanoseconds_of res) (2 ^ 64) then Ok (nanoseconds_of res) else Err NumberOutOfRange
