use Rattle.std.proofs.Common.{◌≡◌, ◌+◌, ◌∙◌, ◌∷◌, ◌++◌, [], sym, subst, arith}
use Rattle.std.specs.Prelude.{nat_eq}
use Rattle.std.proofs.lemmas.List.Splits.{length-slice_split}
use Rattle.std.proofs.lemmas.List.Sums.{count_by-le-length}
use Rattle.wasi_script.specs.Grammar.{Names, reading_of, reading_after, lines_of, parsed}
use Rattle.wasi_script.specs.declared.forms.Reading.TheVariants.{Step}
use Rattle.wasi_script.specs.Declarations.{names_in}
use Rattle.wasi_script.proofs.ScriptFacts.{IsReadTo, after_none, read_step, read_step_stands, read_steps_stand}
use Rattle.wasi_script.proofs.parse.parse_script.Goals as goal

pub loop-text-init : goal.loop-text-init
loop-text-init c =
    let lines : c.into_iter-text-iterator.result ≡ lines_of c.args.bytes.now = cc in
    record {
      so_far = rw (c.new-steps.ensures.items, c.none-declarations.ensures, lines) (sym (after_none _));
      count = rw lines (omega (arith, length-slice_split (λ byte. nat_eq byte 10) c.args.bytes.now, count_by-le-length (λ byte. nat_eq byte 10) c.args.bytes.now));
    }

pub declare-requires : goal.declare-requires
declare-requires c = read_step_stands (names_in c.loop-text.declarations) (reading_of c.in-Some.text.now) c.in-Step.line (sym c.in_ok-read_after.ensures ∙ c.in-Step.is)

pub returns-clause-stand : goal.returns-clause-stand
returns-clause-stand c = read_steps_stand c.args.bytes.now c.loop-text.steps.items (names_in c.loop-text.declarations) (c.loop-text.number + 1) c.loop-text.text-iterator c.loop-text.invariant.so_far c.in-None.ensures.steps.0

pub loop-text-preserved : goal.loop-text-preserved
loop-text-preserved c =
    let texts : c.loop-text.text-iterator ≡ c.in-Some.text.now ∷ c.next.new.self = c.in-Some.ensures.steps in
    let read : reading_after (names_in c.loop-text.declarations) c.in-Some.text.now ≡ Step c.in-Step.line = sym c.in_ok-read_after.ensures ∙ c.in-Step.is in
    let before : IsReadTo (parsed c.args.bytes.now) c.loop-text.steps.items (names_in c.loop-text.declarations) (c.loop-text.number + 1) (c.in-Some.text.now ∷ c.next.new.self) = rw texts at c.loop-text.invariant.so_far in
    let after = read_step (parsed c.args.bytes.now) c.loop-text.steps.items (names_in c.loop-text.declarations) (c.loop-text.number + 1) c.in-Some.text.now c.next.new.self c.in-Step.line before read in
    record {
      so_far = rw c.in_ok-keep-in-Step.ensures (subst (λ (names : Names). IsReadTo (parsed c.args.bytes.now) (c.loop-text.steps.items ++ c.in-Step.line ∷ []) names (c.loop-text.number + 1 + 1) c.next.new.self) (sym c.in_ok-declare-in-Step.ensures.ok) after);
      count = omega (arith, rw texts at c.loop-text.invariant.count);
    }
