use Rattle.std.proofs.Common.{◌≡◌, ◌+◌, ◌-◌, suc, [], get_or, ap, sym, ◌∙◌, arith, length-drop}
use Rattle.std.specs.List.{position_or_len}
use Rattle.wasi_script.specs.Grammar.{lines_of}
use Rattle.wasi_explain.specs.Explained.{is_line_end}
use Rattle.wasi_explain.proofs.LineFacts.{first_part, later_part}
use Rattle.wasi_explain.proofs.lines.cut_at_line.Goals as goal

pub loop-preserved : goal.loop-preserved
loop-preserved c = record {
  short = rw c.after_line-rest.ensures (omega (arith, length-drop (position_or_len is_line_end c.loop.rest.now + 1) c.loop.rest.now, c.loop.invariant.short));
  within = omega (arith, c.loop-test.true, c.loop.auto.counter);
  lines = λ j.
      let next : c.loop.counter - 1 + suc j ≡ c.loop.counter + 1 - 1 + j = omega (arith, c.loop.auto.counter) in
      rw c.after_line-rest.ensures (sym (later_part is_line_end c.loop.rest.now j) ∙ c.loop.invariant.lines (suc j) ∙ ap (λ place. get_or (lines_of c.args.script.now) place []) next);
}

pub returns : goal.returns
returns c =
    let last : c.loop.counter - 1 + 0 ≡ c.args.line - 1 = omega (arith, c.loop-test.false, c.loop.invariant.within) in
    rw c.first_end.ensures (sym (first_part is_line_end c.loop.rest.now) ∙ c.loop.invariant.lines 0 ∙ ap (λ place. get_or (lines_of c.args.script.now) place []) last)
