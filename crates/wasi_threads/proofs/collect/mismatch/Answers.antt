use Rattle.std.proofs.Common.{sym}
use Rattle.wasi_threads.proofs.PartFacts.{pass_get, pass_is, within_parts}
use Rattle.wasi_threads.proofs.collect.mismatch.Goals as goal

pub into_entry-kept-requires : goal.into_entry-kept-requires
into_entry-kept-requires g c =
    let parts = within_parts c.args.i c.args.at c.args.place c.args.history.items c.args.passes.items c.requires.within in
    let facts = pass_is c.args.passes.items c.args.i c.remove-pass.result (pass_get c.args.passes.items c.args.i c.remove-pass.result parts.0 (sym c.remove-pass.ensures.value)) in
    rw (← facts.1) parts.1

pub taken-found-requires : goal.taken-found-requires
taken-found-requires g c = (within_parts c.args.i c.args.at c.args.place c.args.history.items c.args.passes.items c.requires.within).2

pub returns : goal.returns
returns g c =
    let parts = within_parts c.args.i c.args.at c.args.place c.args.history.items c.args.passes.items c.requires.within in
    let facts = pass_is c.args.passes.items c.args.i c.remove-pass.result (pass_get c.args.passes.items c.args.i c.remove-pass.result parts.0 (sym c.remove-pass.ensures.value)) in
    rw (c.taken-found.ensures, c.number-number.ensures, ← facts.0) (c.requires.first c.into_entry-kept.result (rw facts.1 c.into_entry-kept.ensures))
