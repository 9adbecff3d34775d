use Rattle.std.proofs.Common.{◌≡◌, ◌∙◌, ◌++◌, get_or, refl, ap, arith}
use Rattle.wasi_commands.specs.laws.Ended.{with_more-nothing}
use Rattle.wasi_reply.specs.Reply.{reply_line}
use Rattle.wasi_pipeline.specs.declared.line.Line.{Line}
use Rattle.wasi_pipeline.specs.declared.line.Line.TheVariants as line_of
use Rattle.wasi_pipeline.proofs.LoopFacts.{at_end, at_place, bound_at, cut_at, one_after, stopped_after, stopped_before, written_at}
use Rattle.wasi_pipeline.proofs.run.run_steps.Goals as goal

pub loop-line-init : goal.loop-line-init
loop-line-init g c = record {
  count = rw c.in_ok-pipeline.ensures (omega arith);
  first = λ t e. record { now_is = e; pipe_is = rw c.in_ok-pipeline.ensures refl };
  out = λ t e. with_more-nothing _;
  later = omega arith;
}

pub step-requires-clause-bound : goal.step-requires-clause-bound
step-requires-clause-bound g c =
    let step : Line = get_or c.args.steps.now c.loop-line.line-index (line_of.Link 0) in
    bound_at c.args.steps.now c.loop-line.line-index step c.loop-line-test.true (at_place c.args.steps.now c.loop-line.line-index step (line_of.Link 0) c.loop-line-test.true) c.requires

pub loop-line-preserved : goal.loop-line-preserved
loop-line-preserved g c =
    let old = c.loop-line.pipeline.pipe in
    let new = c.step.new.self.pipe in
    let steps = c.args.steps.now in
    let i = c.loop-line.line-index in
    let line : Line = get_or steps i (line_of.Link 0) in
    let at : get_or steps i line ≡ line = at_place steps i line (line_of.Link 0) c.loop-line-test.true in
    let is = c.in_ok-reply.ensures.step in
    let text_is = c.deref.ensures.value ∙ c.in_ok-push_line.ensures.ok ∙ ap (λ text. text ++ reply_line c.in_ok-reply.reply) c.clear.ensures.items in
    record {
      count = omega (arith, c.in_ok-reply.ensures.count, c.loop-line.invariant.count);
      first = λ t e. one_after _ _ old new steps i line _ _ _ c.loop-line-test.true at (c.loop-line.invariant.first t e) is;
      out = λ t e. written_at _ _ old new steps i line _ _ t _ _ _ c.loop-line-test.true at (c.loop-line.invariant.first t e) is (c.loop-line.invariant.out t e) text_is c.in_ok-write_all.ensures.ok;
      later = omega (arith, c.in_ok-write_all.ensures.cause.later, c.loop-line.invariant.later);
    }

pub returns-in_err-write_all-clause-cut_off : goal.returns-in_err-write_all-clause-cut_off
returns-in_err-write_all-clause-cut_off g c = λ t e f.
    let steps = c.args.steps.now in
    let i = c.loop-line.line-index in
    let line : Line = get_or steps i (line_of.Link 0) in
    let at : get_or steps i line ≡ line = at_place steps i line (line_of.Link 0) c.loop-line-test.true in
    let text_is = c.deref.ensures.value ∙ c.in_ok-push_line.ensures.ok ∙ ap (λ text. text ++ reply_line c.in_ok-reply.reply) c.clear.ensures.items in
    cut_at _ _ c.loop-line.pipeline.pipe c.step.new.self.pipe steps i _ line _ _ t _ _ _ c.loop-line-test.true at (c.loop-line.invariant.first t e) c.in_ok-reply.ensures.step (c.loop-line.invariant.out t e) text_is c.in_err-write_all.ensures.err.0 c.in_err-write_all.ensures.err.1

pub returns-in_err-reply-clause-stopped : goal.returns-in_err-reply-clause-stopped
returns-in_err-reply-clause-stopped g c = λ t e f. rw c.in_err-reply.ensures.err.1 (stopped_before _ c.loop-line.pipeline.pipe c.args.steps.now c.loop-line.line-index t _ _ c.loop-line-test.true (c.loop-line.invariant.first t e) (c.loop-line.invariant.out t e))

pub returns-in_err-push_line-clause-stopped : goal.returns-in_err-push_line-clause-stopped
returns-in_err-push_line-clause-stopped g c = λ t e f.
    let steps = c.args.steps.now in
    let i = c.loop-line.line-index in
    let line : Line = get_or steps i (line_of.Link 0) in
    let at : get_or steps i line ≡ line = at_place steps i line (line_of.Link 0) c.loop-line-test.true in
    stopped_after _ _ c.loop-line.pipeline.pipe c.step.new.self.pipe steps i line _ t _ _ c.loop-line-test.true at (c.loop-line.invariant.first t e) c.in_ok-reply.ensures.step (c.loop-line.invariant.out t e)

pub returns-clause-done : goal.returns-clause-done
returns-clause-done g c = λ t e. at_end _ c.loop-line.pipeline.pipe c.args.steps.now c.loop-line.line-index t _ _ (omega arith) (c.loop-line.invariant.first t e) (c.loop-line.invariant.out t e)
