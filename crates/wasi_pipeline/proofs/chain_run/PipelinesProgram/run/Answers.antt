use Rattle.std.proofs.Common.{◌≡◌, ◌∙◌, ap, sym, subst, Some}
use Rattle.wasi_base.specs.Sink.{with_more}
use Rattle.wasi_pipeline.specs.Grammar.{parsed, steps_of, IsGood}
use Rattle.wasi_pipeline.specs.Run.{transcript, told_after_run, CutShort, EndEarly}
use Rattle.wasi_pipeline.proofs.LoopFacts.{on_done}
use Rattle.wasi_pipeline.proofs.EndFacts.{valid_runs_complete}
use Rattle.wasi_pipeline.proofs.Standing.{steps_stand}
use Rattle.wasi_pipeline.proofs.StepFacts.{valid_runs_conserve}
use Rattle.wasi_pipeline.proofs.chain_run.PipelinesProgram.run.Goals as goal

pub returns-in-Ok-clause-done : goal.returns-in-Ok-clause-done
returns-in-Ok-clause-done g c = λ t e.
    let script = c.args.script.now in
    let same : steps_of (parsed script) ≡ c.as_slice.result.now = ap steps_of c.in-Ok.ensures.ok ∙ sym c.as_slice.ensures.value in
    let good : IsGood (parsed script) = rw c.in-Ok.ensures.ok tt in
    on_done c.run_steps.result _ _ (λ ended. record {
      good = good;
      out = ended.0 ∙ ap (λ steps. with_more (g.K.Sink.taken c.args.out.now) (transcript steps t)) (sym same);
      stdin = ended.1 ∙ ap (λ steps. Some (told_after_run steps t)) (sym same);
      conserves = valid_runs_conserve (steps_of (parsed script)) t (steps_stand script);
      completes = valid_runs_complete (steps_of (parsed script)) t (steps_stand script);
    }) (c.run_steps.ensures.done t e)

pub returns-in-Ok-clause-cut_off : goal.returns-in-Ok-clause-cut_off
returns-in-Ok-clause-cut_off g c = λ t e f.
    let same : steps_of (parsed c.args.script.now) ≡ c.as_slice.result.now = ap steps_of c.in-Ok.ensures.ok ∙ sym c.as_slice.ensures.value in
    subst (λ steps. CutShort steps t (g.K.Sink.taken c.args.out.now) (g.K.Sink.taken c.run_steps.new.out) (g.I.Source.told c.run_steps.new.stdin)) (sym same) (c.run_steps.ensures.cut_off t e f)

pub returns-in-Ok-clause-stopped : goal.returns-in-Ok-clause-stopped
returns-in-Ok-clause-stopped g c = λ t e f.
    let same : steps_of (parsed c.args.script.now) ≡ c.as_slice.result.now = ap steps_of c.in-Ok.ensures.ok ∙ sym c.as_slice.ensures.value in
    subst (λ steps. EndEarly steps t (g.K.Sink.taken c.args.out.now) (g.K.Sink.taken c.run_steps.new.out) (g.I.Source.told c.run_steps.new.stdin)) (sym same) (c.run_steps.ensures.stopped t e f)
