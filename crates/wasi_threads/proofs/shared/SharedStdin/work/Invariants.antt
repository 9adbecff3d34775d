use Rattle.std.proofs.Common.{◌≡◌, false}
use Rattle.wasi_threads.specs.Passes.{has_sight}
use Rattle.wasi_threads.specs.Rounds.{Gave}
use Rattle.wasi_threads.proofs.shared.SharedStdin.work.Given as goal

abbrev pub invariant-loop : goal.invariant-loop
invariant-loop g l = record {
  next : (goal.iterator-loop g).can_next l.iterator';
  finite : (goal.iterator-loop g).is_finite l.iterator';
  first : l.pass.number ≡ 0;
  unseen : has_sight l.pass.entries ≡ false;
  gave : Gave l.fn.pass l.pass (g.S.Source.told l.fn.source) (g.S.Source.told l.source) (g.S.Source.faults l.fn.source) (g.S.Source.faults l.source);
}
