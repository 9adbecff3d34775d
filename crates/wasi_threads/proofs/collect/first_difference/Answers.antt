use Rattle.std.proofs.Common.{◌≡◌, arith, ◌∙◌, sym, ap, take, Some, List}
use Rattle.std.specs.Prelude.{slice_get}
use Rattle.wasi_threads.specs.Passes.{is_among, numbers_of}
use Rattle.wasi_threads.proofs.PartFacts.{pass_get, pass_is, begins_more, differs_first, within_of}
use Rattle.wasi_threads.specs.declared.entry.Entry.{Entry}
use Rattle.wasi_threads.proofs.collect.first_difference.Goals as goal

pub returns-in-Differs-clause-is : goal.returns-in-Differs-clause-is
returns-in-Differs-clause-is g c = λ kept here.
    let get = pass_get c.args.passes.now c.loop-i.i c.index-passes-i.result (omega arith) (sym c.index-passes-i.is) in
    let facts = pass_is c.args.passes.now c.loop-i.i c.index-passes-i.result get in
    let old : c.stands_before-old.result ≡ is_among c.index-passes-i.result.number (numbers_of (take c.loop-i.i c.args.passes.now)) = c.stands_before-old.ensures ∙ ap (λ n. is_among n (numbers_of (take c.loop-i.i c.args.passes.now))) c.number-number.ensures in
    let here' : slice_get c.entries.result.now c.in-Differs.at ≡ Some kept = ap (λ (xs : List Entry). slice_get xs c.in-Differs.at) (c.entries.ensures ∙ sym facts.1) ∙ here in
    rw facts.0 (differs_first c.args.passes.now c.loop-i.i c.index-passes-i.result c.args.history.now c.in-Differs.at kept _ c.loop-i.invariant get
    (rw (← old, ← c.number-number.ensures, ← c.entries.ensures) (c.in-Differs.ensures.is kept here')))

pub returns-in-Differs-clause-within : goal.returns-in-Differs-clause-within
returns-in-Differs-clause-within g c =
    let get = pass_get c.args.passes.now c.loop-i.i c.index-passes-i.result (omega arith) (sym c.index-passes-i.is) in
    let facts = pass_is c.args.passes.now c.loop-i.i c.index-passes-i.result get in
    within_of c.loop-i.i c.in-Differs.at c.in-Differs.place c.args.history.now c.args.passes.now c.entries.result.now c.loop-i-test.true (c.entries.ensures ∙ sym facts.1) c.in-Differs.ensures.within

pub loop-i-preserved : goal.loop-i-preserved
loop-i-preserved g c =
    let get = pass_get c.args.passes.now c.loop-i.i c.index-passes-i.result (omega arith) (sym c.index-passes-i.is) in
    let old : c.stands_before-old.result ≡ is_among c.index-passes-i.result.number (numbers_of (take c.loop-i.i c.args.passes.now)) = c.stands_before-old.ensures ∙ ap (λ n. is_among n (numbers_of (take c.loop-i.i c.args.passes.now))) c.number-number.ensures in
    begins_more c.args.passes.now c.loop-i.i c.index-passes-i.result c.args.history.now c.loop-i.invariant get
    (rw (← old, ← c.number-number.ensures, ← c.entries.ensures) c.in_default.ensures.is)
