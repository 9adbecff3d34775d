use Rattle.std.proofs.Common.{◌≡◌, ◌∙◌, ◌+◌, ◌++◌, get_or, length, refl, sym, ap, arith, rules, length-append}
use Rattle.std.specs.Prelude.{take}
use Rattle.std.specs.Vec.{vec_len}
use Rattle.std.proofs.lemmas.List.{take_all}
use Rattle.wasi_stdin.specs.Shared.{given_now}
use Rattle.wasi_script.specs.declared.lines.Line.{Line}
use Rattle.wasi_reply.specs.Reply.{reply_line}
use Rattle.wasi_reply.specs.Outputs.{output_lines}
use Rattle.wasi_host.specs.Host.{Host, reply_to}
use Rattle.wasi_host.specs.Transcript.{outputs_of}
use Rattle.wasi_host.specs.laws.Steps.{stand_on, names_new, places_step, count_step}
use Rattle.wasi_session.specs.Reading.{replies_to, closing_lines}
use Rattle.wasi_session.proofs.LoopFacts.{one_after, line_after, after_all}
use Rattle.wasi_session.proofs.CountFacts.{one_on, none_left}
use Rattle.wasi_session.proofs.generated.count_run.Goals as goal

pub loop-line-init : goal.loop-line-init
loop-line-init g c = record {
  rest = sym c.into_iter-line-iterator.ensures.into_iter_gives;
  few = omega arith;
  stand = rw (c.in_ok-session.ensures, names_new) c.requires.stand;
  places = rw c.in_ok-session.ensures refl;
  deliveries = rw c.in_ok-session.ensures (omega arith);
  first = λ t e. record { now_is = e; host_is = rw c.in_ok-session.ensures refl };
  text = λ t e. refl;
  bound = omega arith;
}

pub loop-line-preserved : goal.loop-line-preserved
loop-line-preserved g c =
    let old = c.loop-line.session.host in
    let new = c.one_step.new.session.host in
    let given = given_now new.shared in
    let steps = c.args.steps in
    let i = c.loop-line.count in
    let line : Line = c.in-Some.line in
    let on = one_on steps i line c.next.new.self (c.loop-line.invariant.rest ∙ c.in-Some.ensures.steps) in
    let is = c.in_ok-one_step.ensures.step in
    let next = stand_on old new given steps i line on.0 on.1 c.loop-line.invariant.places c.loop-line.invariant.stand is.host_is in
    let answer = reply_to line old given in
    let long : vec_len c.one_step.new.text ≡ length c.one_step.new.text.items = search rules in
    let line_is : c.len.result ≡ length (reply_line answer) = c.len.ensures ∙ long ∙ ap length c.in_ok-one_step.ensures.text in
    record {
      rest = on.2;
      few = omega (arith, on.0);
      stand = next;
      places = rw is.host_is (places_step line old given ∙ c.loop-line.invariant.places);
      deliveries = rw is.host_is (omega (arith, count_step line old given, c.loop-line.invariant.deliveries));
      first = λ t e. one_after _ _ old new steps i line _ _ _ on.0 on.1 (c.loop-line.invariant.first t e) is;
      text = λ t e.
          let more = line_after _ _ old new steps i line answer t on.0 on.1 (c.loop-line.invariant.first t e) is in
          (λ k. c.loop-line.invariant.text t e k + line_is k) ∙ sym (length-append (replies_to t (take i steps)) (reply_line answer)) ∙ ap length (sym more);
      bound = omega (arith, c.loop-line.invariant.bound, c.len.type_inv);
    }

pub one_step-requires-clause-count : goal.one_step-requires-clause-count
one_step-requires-clause-count g c = omega (arith, c.loop-line.invariant.deliveries, c.loop-line.invariant.few, c.requires.few)

pub overflow_add-count : goal.overflow_add-count
overflow_add-count g c = omega (arith, c.loop-line.invariant.few, c.requires.few)

pub overflow_add-printed : goal.overflow_add-printed
overflow_add-printed g c = omega (arith, c.loop-line.invariant.bound, c.loop-line.invariant.few, c.requires.few, c.len.type_inv)

pub overflow_add-result : goal.overflow_add-result
overflow_add-result g c = omega (arith, c.loop-line.invariant.bound, c.loop-line.invariant.few, c.requires.few, c.len-2.type_inv)

pub returns-clause-count : goal.returns-clause-count
returns-clause-count g c =
    let past = none_left c.args.steps c.loop-line.count (c.loop-line.invariant.rest ∙ c.in-None.ensures.steps.0) in
    omega (arith, past, c.loop-line.invariant.few)

pub returns-clause-printed : goal.returns-clause-printed
returns-clause-printed g c = λ t e.
    let steps = c.args.steps in
    let i = c.loop-line.count in
    let past = none_left steps i (c.loop-line.invariant.rest ∙ c.in-None.ensures.steps.0) in
    let end = after_all _ _ steps i t past (c.loop-line.invariant.first t e) in
    let long : vec_len c.outputs.new.text ≡ length c.outputs.new.text.items = search rules in
    let lines_are = c.in_ok-outputs.ensures.ok ∙ ap (λ text. text ++ output_lines (outputs_of c.loop-line.session.host.streams)) c.clear.ensures.items ∙ ap (λ (host : Host). output_lines (outputs_of host.streams)) end.host_is in
    let told_is : c.loop-line.printed ≡ length (replies_to t steps) = c.loop-line.invariant.text t e ∙ ap (λ first. length (replies_to t first)) (take_all i steps past) in
    (λ k. told_is k + (c.len-2.ensures ∙ long ∙ ap length lines_are) k) ∙ sym (length-append (replies_to t steps) (closing_lines steps t))

pub returns-clause-told : goal.returns-clause-told
returns-clause-told g c = λ t e.
    let past = none_left c.args.steps c.loop-line.count (c.loop-line.invariant.rest ∙ c.in-None.ensures.steps.0) in
    (after_all _ _ c.args.steps c.loop-line.count t past (c.loop-line.invariant.first t e)).now_is
