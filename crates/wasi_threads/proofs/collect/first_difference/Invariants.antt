use Rattle.std.proofs.Common.{take, []}
use Rattle.wasi_threads.specs.Collects.{AreBeginnings}
use Rattle.wasi_threads.proofs.collect.first_difference.Given as goal

abbrev pub invariant-loop-i : goal.invariant-loop-i
invariant-loop-i g l = AreBeginnings [] (take l.i l.passes) l.history
