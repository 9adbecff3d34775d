use Rattle.std.proofs.Common.{◌≡◌, ◌∙◌, ◌++◌, get_or, refl, sym, ap, arith}
use Rattle.wasi_stdin.specs.Shared.{given_now}
use Rattle.wasi_script.specs.declared.lines.Line.{Line}
use Rattle.wasi_host.specs.laws.Steps.{stand_on, names_new, places_step, count_step}
use Rattle.wasi_reply.specs.Reply.{reply_line}
use Rattle.wasi_reply.specs.Outputs.{output_lines}
use Rattle.wasi_host.specs.Host.{reply_to}
use Rattle.wasi_host.specs.Transcript.{outputs_of}
use Rattle.wasi_commands.specs.laws.Ended.{with_more-nothing}
use Rattle.wasi_session.proofs.LoopFacts.{after_all, closed_early, closed_short, closed_whole, cut_at, one_after, stopped_at, written_at}
use Rattle.wasi_session.proofs.run.run_steps.Goals as goal

pub loop-line-init : goal.loop-line-init
loop-line-init g c = record {
  stand = rw (c.in_ok-session.ensures, names_new) c.requires;
  places = rw c.in_ok-session.ensures refl;
  count = rw c.in_ok-session.ensures (omega arith);
  first = λ t e. record { now_is = e; host_is = rw c.in_ok-session.ensures refl };
  out = λ t e. with_more-nothing _;
  later = omega arith;
}

pub loop-line-preserved : goal.loop-line-preserved
loop-line-preserved g c =
    let old = c.loop-line.session.host in
    let new = c.step.new.self.host in
    let given = given_now new.shared in
    let steps = c.args.steps.now in
    let i = c.loop-line.line-index in
    let line : Line = c.line-item.result in
    let at : get_or steps i line ≡ line = sym c.line-item.is in
    let is = c.in_ok-step.ensures.step in
    let next = stand_on old new given steps i line c.loop-line-test.true at c.loop-line.invariant.places c.loop-line.invariant.stand is.host_is in
    let text_is = c.deref.ensures.value ∙ c.in_ok-step.ensures.text ∙ ap (λ text. text ++ reply_line (reply_to line old given)) c.clear.ensures.items in
    record {
      stand = next;
      places = rw is.host_is (places_step line old given ∙ c.loop-line.invariant.places);
      count = rw is.host_is (omega (arith, count_step line old given));
      first = λ t e. one_after _ _ old new steps i line _ _ _ c.loop-line-test.true at (c.loop-line.invariant.first t e) is;
      out = λ t e. written_at _ _ old new steps i line _ _ t _ _ _ c.loop-line-test.true at (c.loop-line.invariant.first t e) is (c.loop-line.invariant.out t e) text_is c.in_ok-write_all.ensures.ok;
      later = omega (arith, c.in_ok-write_all.ensures.cause.later, c.loop-line.invariant.later);
    }

pub returns-in_err-write_all-clause-cut_off : goal.returns-in_err-write_all-clause-cut_off
returns-in_err-write_all-clause-cut_off g c = λ t e f.
    let text_is = c.deref.ensures.value ∙ c.in_ok-step.ensures.text ∙ ap (λ text. text ++ reply_line (reply_to c.line-item.result c.loop-line.session.host (given_now c.step.new.self.host.shared))) c.clear.ensures.items in
    cut_at _ _ c.loop-line.session.host c.step.new.self.host c.args.steps.now c.loop-line.line-index _ c.line-item.result _ _ t _ _ _ c.loop-line-test.true (sym c.line-item.is) (c.loop-line.invariant.first t e) c.in_ok-step.ensures.step (c.loop-line.invariant.out t e) text_is c.in_err-write_all.ensures.err.0 c.in_err-write_all.ensures.err.1

pub returns-in_err-step-clause-stopped : goal.returns-in_err-step-clause-stopped
returns-in_err-step-clause-stopped g c = λ t e f. stopped_at _ _ c.loop-line.session.host c.step.new.self.host c.args.steps.now c.loop-line.line-index c.line-item.result t _ _ c.loop-line-test.true (sym c.line-item.is) (c.loop-line.invariant.first t e) (c.loop-line.invariant.out t e) c.in_err-step.ensures.stopped

pub returns-in_err-outputs-clause-stopped : goal.returns-in_err-outputs-clause-stopped
returns-in_err-outputs-clause-stopped g c = λ t e f. closed_early _ c.loop-line.session.host c.args.steps.now c.loop-line.line-index t _ _ (omega arith) (c.loop-line.invariant.first t e) (c.loop-line.invariant.out t e)

pub returns-in_err-write_all-2-clause-cut_off : goal.returns-in_err-write_all-2-clause-cut_off
returns-in_err-write_all-2-clause-cut_off g c = λ t e f.
    let lines_are = c.deref-2.ensures.value ∙ c.in_ok-outputs.ensures.ok ∙ ap (λ text. text ++ output_lines (outputs_of c.loop-line.session.host.streams)) c.clear-2.ensures.items in
    closed_short _ c.loop-line.session.host c.args.steps.now c.loop-line.line-index _ _ t _ _ _ (omega arith) (c.loop-line.invariant.first t e) (c.loop-line.invariant.out t e) lines_are c.in_err-write_all-2.ensures.err.0 c.in_err-write_all-2.ensures.err.1

pub returns-clause-done : goal.returns-clause-done
returns-clause-done g c = λ t e.
    let lines_are = c.deref-2.ensures.value ∙ c.in_ok-outputs.ensures.ok ∙ ap (λ text. text ++ output_lines (outputs_of c.loop-line.session.host.streams)) c.clear-2.ensures.items in
    (closed_whole _ c.loop-line.session.host c.args.steps.now c.loop-line.line-index _ t _ _ _ (omega arith) (c.loop-line.invariant.first t e) (c.loop-line.invariant.out t e) lines_are c.in_ok-write_all-2.ensures.ok, (after_all _ _ c.args.steps.now c.loop-line.line-index t (omega arith) (c.loop-line.invariant.first t e)).now_is)
