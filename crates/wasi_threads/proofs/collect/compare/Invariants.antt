use Rattle.std.proofs.Common.{◌≡◌, take, length, min}
use Rattle.wasi_threads.specs.Passes.{part_of}
use Rattle.wasi_threads.proofs.collect.compare.Given as goal

abbrev pub invariant-loop-place : goal.invariant-loop-place
invariant-loop-place l = record {
  same : take l.at l.entries ≡ take l.at (part_of l.number (take l.place l.history));
  at : l.at ≡ min (length l.entries) (length (part_of l.number (take l.place l.history)));
}
