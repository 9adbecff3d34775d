-- Points in time by their distance from the epoch.
use Rattle.std.proofs.Common.{lit<}
use Rattle.std.specs.Prelude.{ℕ, ℤ, pos, negsuc, neg_ℤ, ◌+◌, ◌-◌, ◌*◌, if◌then◌else◌, ◌==◌}
use Rattle.wasi_clocks.specs.declared.wall_times.WallTime.{WallTime}
use Rattle.wasi_clocks.specs.declared.wall_times.Moment.{Moment}

-- the last whole second since the epoch that is not after it
abbrev pub whole_seconds : Moment → ℤ
whole_seconds moment =
    if moment.before_epoch
    then (if moment.nanoseconds == 0 then neg_ℤ (pos moment.seconds) else negsuc moment.seconds)
    else pos moment.seconds

-- the nanoseconds from that second on
abbrev pub nanoseconds_past : Moment → ℕ
nanoseconds_past moment =
    if moment.before_epoch
    then (if moment.nanoseconds == 0 then 0 else 1000000000 - moment.nanoseconds)
    else moment.nanoseconds

-- all of a wall time's nanoseconds
abbrev pub nanoseconds_of : WallTime → ℕ
nanoseconds_of time = time.seconds * 1000000000 + time.nanoseconds

-- the nanoseconds since the epoch
abbrev pub time_of_moment : Moment → ℤ
time_of_moment moment =
    let distance = pos (moment.seconds * 1000000000 + moment.nanoseconds) in
    if moment.before_epoch then neg_ℤ distance else distance

abbrev pub no_time : WallTime
no_time = record { seconds = 0; nanoseconds = 0; in_second = lit< tt }

abbrev pub one_nanosecond : WallTime
one_nanosecond = record { seconds = 0; nanoseconds = 1; in_second = lit< tt }
