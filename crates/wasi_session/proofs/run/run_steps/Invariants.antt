use Rattle.std.proofs.Common.{◌≡◌, ◌≤◌, drop, length, Some}
use Rattle.std.specs.Prelude.{take}
use Rattle.wasi_base.specs.Source.{Told}
use Rattle.wasi_base.specs.Sink.{with_more}
use Rattle.wasi_script.specs.Grammar.{AllStand}
use Rattle.wasi_host.specs.Host.{names_of, new_host}
use Rattle.wasi_session.specs.Reading.{replies_to}
use Rattle.wasi_session.proofs.LoopFacts.{After}
use Rattle.wasi_session.proofs.run.run_steps.Given as goal

-- the first steps were done, and the output took the text of their replies
abbrev pub invariant-loop-line : goal.invariant-loop-line
invariant-loop-line g l = record {
  stand : AllStand (names_of l.session.host) (drop l.line-index l.steps);
  places : length l.session.host.guests ≡ 64;
  count : l.session.host.shared.deliveries ≤ l.line-index;
  first : (t : Told) → g.I.Source.told l.fn.stdin ≡ Some t → After (g.I.Source.told l.stdin) l.session.host (take l.line-index l.steps) new_host t;
  out : (t : Told) → g.I.Source.told l.fn.stdin ≡ Some t → g.K.Sink.taken l.out ≡ with_more (g.K.Sink.taken l.fn.out) (replies_to t (take l.line-index l.steps));
  later : g.K.Sink.faults l.fn.out ≤ g.K.Sink.faults l.out;
}
