-- The times that nodes are given.
use Rattle.std.specs.Prelude.{pos, Option, Some, None, Result, Ok, Err}
use Rattle.wasi_clocks.specs.Datetimes.{datetime_at}
use Rattle.wasi_clocks.specs.Instants.{carried}
use Rattle.wasi_clocks.specs.declared.datetimes.Datetime.{Datetime}
use Rattle.wasi_clocks.specs.declared.wall_times.WallTime.{WallTime}
use Rattle.wasi_fs_types.specs.declared.descriptor.NewTimestamp.{NewTimestamp}
use Rattle.wasi_fs_types.specs.declared.descriptor.NewTimestamp.TheVariants.{NoChange, Now, Timestamp}
use Rattle.wasi_fs_types.specs.declared.error_code.ErrorCode.{ErrorCode}
use Rattle.wasi_fs_types.specs.declared.error_code.ErrorCode.TheVariants as code

-- what the wall clock reads, where its seconds fit
abbrev pub time_of : WallTime → Option Datetime
time_of wall = datetime_at (pos wall.seconds) wall.nanoseconds

abbrev pub told_time : Option Datetime → Result (Option Datetime) ErrorCode
told_time None = Err code.Overflow
told_time (Some time) = Ok (Some time)

-- the time that a node is given, or none to leave the one that it has
abbrev pub new_time : NewTimestamp → WallTime → Result (Option Datetime) ErrorCode
new_time NoChange wall = Ok None
new_time Now wall = told_time (time_of wall)
new_time (Timestamp instant) wall = told_time (carried instant)
