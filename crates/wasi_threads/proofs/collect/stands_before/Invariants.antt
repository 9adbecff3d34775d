use Rattle.std.proofs.Common.{◌≡◌, false, take}
use Rattle.wasi_threads.specs.Passes.{is_among, numbers_of}
use Rattle.wasi_threads.proofs.collect.stands_before.Given as goal

abbrev pub invariant-loop-at : goal.invariant-loop-at
invariant-loop-at g l = is_among l.number (numbers_of (take l.at l.passes)) ≡ false
