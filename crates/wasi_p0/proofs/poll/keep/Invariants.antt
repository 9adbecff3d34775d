use Rattle.std.proofs.Common.{◌≡◌, Ok, length}
use Rattle.wasi_p0.specs.Slots.{rewriting}
use Rattle.wasi_p0.proofs.poll.keep.Given as goal

abbrev pub invariant-loop-i : goal.invariant-loop-i
invariant-loop-i l = record {
  so_far : rewriting l.subs l.i l.fn.memory ≡ record { kept = Ok l.kept.items; memory = l.memory };
  count : length l.kept.items ≡ l.i;
}
