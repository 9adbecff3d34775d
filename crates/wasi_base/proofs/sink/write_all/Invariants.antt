use Rattle.std.proofs.Common.{◌≡◌, ◌≤◌, ◌-◌, length, take, Some}
use Rattle.wasi_base.specs.Sink.{Limits, with_more}
use Rattle.wasi_base.proofs.SinkFacts.{IsOnTheWay}
use Rattle.wasi_base.proofs.sink.write_all.Given as goal

abbrev pub invariant-loop-at : goal.invariant-loop-at
invariant-loop-at g l = record {
  within : l.at ≤ length l.bytes;
  took : g.K.Sink.taken l.sink ≡ with_more (g.K.Sink.taken l.fn.sink) (take l.at l.bytes);
  later : g.K.Sink.faults l.fn.sink ≤ g.K.Sink.faults l.sink;
  way : (first : Limits) → g.K.Sink.limits l.fn.sink ≡ Some first → IsOnTheWay first (length l.bytes) l.at (g.K.Sink.limits l.sink);
}

abbrev pub decreases-loop-at : goal.decreases-loop-at
decreases-loop-at g l = length l.bytes - l.at
