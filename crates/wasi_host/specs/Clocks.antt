-- The clocks of a session, and what a guest is told of them.
use Rattle.std.specs.Prelude.{ℕ, Result, Ok, Err, unsigned_abs}
use Rattle.wasi_base.specs.declared.trap_text.TrapText.{TrapText}
use Rattle.wasi_clocks.specs.declared.wall_times.WallTime.{WallTime}
use Rattle.wasi_clocks.specs.declared.instants.Instant.{Instant}
use Rattle.wasi_clocks.specs.WallTimes.{no_time, one_nanosecond}
use Rattle.wasi_script.specs.declared.lines.ClockSetting.{ClockSetting}
use Rattle.wasi_script.specs.declared.lines.ClockSetting.TheVariants as setting
use Rattle.wasi_reply.specs.declared.reply.Told.{Told}
use Rattle.wasi_reply.specs.declared.reply.Told.TheVariants as told
pub use Rattle.wasi_host.specs.declared.clocks.Clocks.{Clocks}

abbrev pub new_clocks : Clocks
new_clocks = record { wall_now = no_time; wall_resolution = one_nanosecond; monotonic_now = 0; monotonic_resolution = 1 }

-- after a line that sets one of them
abbrev pub clocks_after : ClockSetting → Clocks → Clocks
clocks_after (setting.Monotonic now) clocks = record clocks { monotonic_now = now }
clocks_after (setting.MonotonicResolution resolution) clocks = record clocks { monotonic_resolution = resolution }
clocks_after (setting.Wall now) clocks = record clocks { wall_now = now }
clocks_after (setting.WallResolution resolution) clocks = record clocks { wall_resolution = resolution }

abbrev pub time_told : WallTime → Told
time_told time = told.Time time.seconds time.nanoseconds

-- a time of WASI 0.3, which is not before the epoch where a wall clock reads it
abbrev pub instant_told : Result Instant TrapText → Told
instant_told (Ok instant) = told.Time (unsigned_abs instant.seconds) instant.nanoseconds
instant_told (Err text) = told.Trap text

abbrev pub count_told : Result ℕ TrapText → Told
count_told (Ok count) = told.Count count
count_told (Err text) = told.Trap text
