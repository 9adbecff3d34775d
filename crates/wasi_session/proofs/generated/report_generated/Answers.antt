use Rattle.std.proofs.Common.{◌≡◌, ◌∙◌, ◌+◌, ◌≤◌, ℕ, List, [], length, Option, Some, None, IfOk, ap, sym, subst, arith}
use Rattle.wasi_base.specs.Source.{Told}
use Rattle.wasi_script.specs.Grammar.{AllStand, no_names, parsed, steps_of}
use Rattle.wasi_script.specs.Generated.{generated_script, generated_steps, generated_input}
use Rattle.wasi_script.specs.laws.GeneratedValid.{is_valid, is_counted}
use Rattle.wasi_script.specs.laws.Standing.{steps_stand}
use Rattle.wasi_host.specs.Transcript.{transcript, told_after_run}
use Rattle.wasi_session.specs.Generated.{count_lines, report}
use Rattle.wasi_session.proofs.generated.report_generated.Goals as goal

abbrev left_in : Option Told → List ℕ
left_in None = []
left_in (Some told) = told.left

pub count_run-requires-clause-stand : goal.count_run-requires-clause-stand
count_run-requires-clause-stand c = subst (λ steps. AllStand no_names steps) (ap steps_of (is_valid c.args.number c.args.lines) ∙ sym c.gen_steps.ensures) (steps_stand (generated_script c.args.number c.args.lines))

pub count_run-requires-clause-few : goal.count_run-requires-clause-few
count_run-requires-clause-few c = subst (λ (n : ℕ). n ≤ 100005) (sym (ap length c.gen_steps.ensures ∙ is_counted c.args.number c.args.lines)) (omega (arith, c.requires))

pub returns : goal.returns
returns c =
    let script = generated_script c.args.number c.args.lines in
    let same : c.gen_steps.result ≡ steps_of (parsed script) = c.gen_steps.ensures ∙ sym (ap steps_of (is_valid c.args.number c.args.lines)) in
    let told : Told = record { left = generated_input c.args.number c.args.lines; plan = [] } in
    let told_is : c.new-stdin.result.told ≡ told = ap (λ s. s.told) c.new-stdin.ensures ∙ (λ i. record { left = c.in_ok-input.ensures i; plan = c.new.ensures.items i }) in
    let count_is : c.in_ok-count.count ≡ length (steps_of (parsed script)) = c.in_ok-count.ensures.count ∙ ap length same in
    let printed_is : c.in_ok-count.printed ≡ length (transcript (steps_of (parsed script)) told) = c.in_ok-count.ensures.printed told (ap Some told_is) ∙ ap (λ steps. length (transcript steps told)) same in
    let left_is : length c.left-left.result.now ≡ length (told_after_run (steps_of (parsed script)) told).left = ap length (c.left-left.ensures ∙ ap left_in (c.in_ok-count.ensures.told told (ap Some told_is)) ∙ ap (λ steps. (told_after_run steps told).left) same) in
    subst (λ lines. IfOk c.write_counts.result (λ text. text.items ≡ lines)) (λ i. count_lines (count_is i) (printed_is i) (left_is i)) c.write_counts.ensures
