use Rattle.std.proofs.Common.{◌≡◌, ◌≤◌, ◌*◌, ◌^◌, drop, length, Some}
use Rattle.std.specs.Prelude.{take}
use Rattle.wasi_base.specs.Source.{Told}
use Rattle.wasi_script.specs.Grammar.{AllStand}
use Rattle.wasi_host.specs.Host.{names_of, new_host}
use Rattle.wasi_session.specs.Reading.{replies_to}
use Rattle.wasi_session.proofs.LoopFacts.{After}
use Rattle.wasi_session.proofs.generated.count_run.Given as goal

-- the first steps were done, and the bytes of their replies' text are counted
abbrev pub invariant-loop-line : goal.invariant-loop-line
invariant-loop-line g l = record {
  rest : drop l.count l.fn.steps ≡ l.line-iterator;
  few : l.count ≤ length l.fn.steps;
  stand : AllStand (names_of l.session.host) (drop l.count l.fn.steps);
  places : length l.session.host.guests ≡ 64;
  deliveries : l.session.host.shared.deliveries ≤ l.count;
  first : (t : Told) → g.I.Source.told l.fn.stdin ≡ Some t → After (g.I.Source.told l.stdin) l.session.host (take l.count l.fn.steps) new_host t;
  text : (t : Told) → g.I.Source.told l.fn.stdin ≡ Some t → l.printed ≡ length (replies_to t (take l.count l.fn.steps));
  bound : l.printed ≤ l.count * 2 ^ 64;
}
