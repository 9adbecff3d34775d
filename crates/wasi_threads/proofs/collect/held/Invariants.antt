use Rattle.std.proofs.Common.{◌≡◌, ◌+◌, drop}
use Rattle.wasi_threads.specs.Passes.{held_by}
use Rattle.wasi_threads.proofs.collect.held.Given as goal

abbrev pub invariant-loop-pass : goal.invariant-loop-pass
invariant-loop-pass g l = l.sum + held_by (drop l.pass-index l.passes) ≡ held_by l.passes
