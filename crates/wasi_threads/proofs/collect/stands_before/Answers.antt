use Rattle.std.proofs.Common.{◌≡◌, arith, false, nat_eq, ◌∙◌, sym, refl}
use Rattle.std.proofs.lemmas.Bool.Decides.{nat_tests}
use Rattle.wasi_threads.proofs.PartFacts.{among_step, among_found, pass_get}
use Rattle.wasi_threads.proofs.collect.stands_before.Goals as goal

pub returns-then-number : goal.returns-then-number
returns-then-number g c = sym (among_found c.args.passes.now c.loop-at.at c.args.end c.index-passes-at.result c.args.number (pass_get c.args.passes.now c.loop-at.at c.index-passes-at.result (omega arith) (sym c.index-passes-at.is)) (sym c.number.ensures ∙ c.if-number.true) (omega arith))

pub loop-at-preserved : goal.loop-at-preserved
loop-at-preserved g c =
    let e = among_step c.args.passes.now c.loop-at.at c.index-passes-at.result c.args.number (omega arith) (sym c.index-passes-at.is) in
    let other : nat_eq c.args.number c.index-passes-at.result.number ≡ false = let n = c.if-number.false in let m = c.number.ensures in grind (arith, nat_tests) in
    e ∙ rw (c.loop-at.invariant, other) refl
