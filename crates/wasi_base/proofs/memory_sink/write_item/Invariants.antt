use Rattle.std.proofs.Common.{◌≡◌, ◌++◌, take, drop}
use Rattle.wasi_base.specs.Sink.{write_item, without_item}
use Rattle.wasi_base.proofs.memory_sink.write_item.Given as goal

abbrev pub invariant-loop-place : goal.invariant-loop-place
invariant-loop-place l = record {
  item : write_item (drop l.place l.plan) ≡ write_item l.plan;
  done : take l.place l.plan ++ without_item (drop l.place l.plan) ≡ without_item l.plan;
}
