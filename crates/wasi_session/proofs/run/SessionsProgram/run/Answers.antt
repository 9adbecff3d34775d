use Rattle.std.proofs.Common.{◌≡◌, ◌∙◌, ap, sym, subst, Some}
use Rattle.wasi_base.specs.Sink.{with_more}
use Rattle.wasi_script.specs.Grammar.{AllStand, no_names, parsed, steps_of, IsGood, lines_of}
use Rattle.wasi_script.specs.laws.Standing.{stand_from}
use Rattle.wasi_host.specs.Transcript.{transcript, told_after_run}
use Rattle.wasi_host.specs.laws.Headline.{headline}
use Rattle.wasi_host.specs.laws.Isolation.{alone}
use Rattle.wasi_session.specs.Reading.{CutShort, EndEarly}
use Rattle.wasi_session.proofs.LoopFacts.{on_done}
use Rattle.wasi_session.proofs.run.SessionsProgram.run.Goals as goal

pub run_steps-requires : goal.run_steps-requires
run_steps-requires g c =
    let same : steps_of (parsed c.args.script.now) ≡ c.steps.result.now = ap steps_of c.in-Ok.ensures.ok ∙ sym c.steps.ensures in
    subst (λ steps. AllStand no_names steps) same (stand_from no_names 1 (lines_of c.args.script.now))

pub returns-in-Ok-clause-done : goal.returns-in-Ok-clause-done
returns-in-Ok-clause-done g c = λ t e.
    let script = c.args.script.now in
    let same : steps_of (parsed script) ≡ c.steps.result.now = ap steps_of c.in-Ok.ensures.ok ∙ sym c.steps.ensures in
    let good : IsGood (parsed script) = rw c.in-Ok.ensures.ok tt in
    on_done c.run_steps.result _ _ (λ ended. record {
      good = good;
      out = ended.0 ∙ ap (λ steps. with_more (g.K.Sink.taken c.args.out.now) (transcript steps t)) (sym same);
      stdin = ended.1 ∙ ap (λ steps. Some (told_after_run steps t)) (sym same);
      headline = headline (steps_of (parsed script)) t (stand_from no_names 1 (lines_of script));
      alone = λ guest apart. alone guest (steps_of (parsed script)) t apart;
    }) (c.run_steps.ensures.done t e)

pub returns-in-Ok-clause-cut_off : goal.returns-in-Ok-clause-cut_off
returns-in-Ok-clause-cut_off g c = λ t e f.
    let same : steps_of (parsed c.args.script.now) ≡ c.steps.result.now = ap steps_of c.in-Ok.ensures.ok ∙ sym c.steps.ensures in
    subst (λ steps. CutShort steps t (g.K.Sink.taken c.args.out.now) (g.K.Sink.taken c.run_steps.new.out) (g.I.Source.told c.run_steps.new.stdin)) (sym same) (c.run_steps.ensures.cut_off t e f)

pub returns-in-Ok-clause-stopped : goal.returns-in-Ok-clause-stopped
returns-in-Ok-clause-stopped g c = λ t e f.
    let same : steps_of (parsed c.args.script.now) ≡ c.steps.result.now = ap steps_of c.in-Ok.ensures.ok ∙ sym c.steps.ensures in
    subst (λ steps. EndEarly steps t (g.K.Sink.taken c.args.out.now) (g.K.Sink.taken c.run_steps.new.out) (g.I.Source.told c.run_steps.new.stdin)) (sym same) (c.run_steps.ensures.stopped t e f)
