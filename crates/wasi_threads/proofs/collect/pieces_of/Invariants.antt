use Rattle.std.proofs.Common.{◌≡◌, ◌++◌, drop}
use Rattle.wasi_threads.specs.Collects.{handed_out}
use Rattle.wasi_threads.proofs.collect.pieces_of.Given as goal

abbrev pub invariant-loop-i : goal.invariant-loop-i
invariant-loop-i l = l.out.items ++ handed_out (drop l.i l.history) ≡ handed_out l.history
