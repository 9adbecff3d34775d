use Rattle.std.proofs.Common.{sym}
use Rattle.wasi_script.specs.laws.TimeFacts.{time_is}
use Rattle.wasi_script.proofs.times.wall_time.Goals as goal

pub returns : goal.returns
returns c = sym (time_is c.args.seconds c.args.nanoseconds _)
