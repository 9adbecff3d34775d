use Rattle.std.proofs.Common.{◌≡◌, ◌+◌, ◌∙◌, ◌∷◌, sym, arith}
use Rattle.std.specs.Prelude.{nat_eq}
use Rattle.std.proofs.lemmas.List.Splits.{length-slice_split}
use Rattle.std.proofs.lemmas.List.Sums.{count_by-le-length}
use Rattle.wasi_words.specs.Fields.{lines_of}
use Rattle.wasi_pipeline.specs.Grammar.{reading_of, reading_after, parsed}
use Rattle.wasi_pipeline.specs.declared.reading.Reading.TheVariants.{Step}
use Rattle.wasi_pipeline.proofs.ScriptFacts.{IsReadTo, after_none, read_step, read_step_stands, one_more_bound}
use Rattle.wasi_pipeline.proofs.parse.parse_script.Goals as goal

pub loop-text-init : goal.loop-text-init
loop-text-init c =
    let lines : c.into_iter-text-iterator.result ≡ lines_of c.args.bytes.now = cc in
    record {
      so_far = rw (c.new-steps.ensures.items, c.nothing-declared.ensures, lines) (sym (after_none _));
      bounds = rw c.new-steps.ensures.items tt;
      count = rw lines (omega (arith, length-slice_split (λ byte. nat_eq byte 10) c.args.bytes.now, count_by-le-length (λ byte. nat_eq byte 10) c.args.bytes.now));
    }

pub after-declared-requires : goal.after-declared-requires
after-declared-requires c = read_step_stands c.loop-text.declared (reading_of c.in-Some.text.now) c.in-Step.line (sym c.read_after.ensures.reading ∙ c.in-Step.is)

pub loop-text-preserved : goal.loop-text-preserved
loop-text-preserved c =
    let texts : c.loop-text.text-iterator ≡ c.in-Some.text.now ∷ c.next.new.self = c.in-Some.ensures.steps in
    let read : reading_after c.loop-text.declared c.in-Some.text.now ≡ Step c.in-Step.line = sym c.read_after.ensures.reading ∙ c.in-Step.is in
    let before : IsReadTo (parsed c.args.bytes.now) c.loop-text.steps.items c.loop-text.declared (c.loop-text.number + 1) (c.in-Some.text.now ∷ c.next.new.self) = rw texts at c.loop-text.invariant.so_far in
    record {
      so_far = rw (c.in_ok-keep-in-Step.ensures, c.after-declared.ensures) (read_step (parsed c.args.bytes.now) c.loop-text.steps.items c.loop-text.declared (c.loop-text.number + 1) c.in-Some.text.now c.next.new.self c.in-Step.line before read);
      bounds = rw c.in_ok-keep-in-Step.ensures (one_more_bound c.loop-text.steps.items c.in-Step.line c.loop-text.invariant.bounds c.in-Step.ensures.bound);
      count = omega (arith, rw texts at c.loop-text.invariant.count);
    }
