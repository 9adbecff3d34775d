use Rattle.std.proofs.Common.{◌≡◌, arith, length, ◌∙◌, sym, ap}
use Rattle.wasi_threads.specs.Passes.{held_by}
use Rattle.wasi_threads.proofs.PartFacts.{held_short}
use Rattle.wasi_threads.proofs.collect.settle.Goals as goal

pub is_whole-requires-clause-fits : goal.is_whole-requires-clause-fits
is_whole-requires-clause-fits g c =
    let begins = rw (c.as_slice.ensures.value, c.as_slice-2.ensures.value) at c.in-Nowhere.ensures.is in
    let e : c.as_slice-in-Nowhere-2.result.now ≡ c.args.passes.items = c.as_slice-in-Nowhere-2.ensures.value in
    rw e (omega (arith, held_short c.args.passes.items c.args.history.items begins))

pub held-requires : goal.held-requires
held-requires g c =
    let begins = rw (c.as_slice.ensures.value, c.as_slice-2.ensures.value) at c.in-Nowhere.ensures.is in
    let e : c.as_slice-else-is_whole.result.now ≡ c.args.passes.items = c.as_slice-else-is_whole.ensures.value in
    record { fits = rw e (omega (arith, held_short c.args.passes.items c.args.history.items begins)) }

pub returns-else-is_whole-clause-err : goal.returns-else-is_whole-clause-err
returns-else-is_whole-clause-err g c =
    let begins = rw (c.as_slice.ensures.value, c.as_slice-2.ensures.value) at c.in-Nowhere.ensures.is in
    let held : c.held.result ≡ held_by c.args.passes.items = c.held.ensures ∙ ap held_by c.as_slice-else-is_whole.ensures.value in
    let long : c.len.result ≡ length c.args.history.items = omega arith in
    let no = rw (c.as_slice-in-Nowhere.ensures.value, c.as_slice-in-Nowhere-2.ensures.value) at (c.is_whole.ensures.no c.if-is_whole.false) in
    (begins, held, long, λ t. no (sym held ∙ (t ∙ long)))
