use Rattle.std.proofs.Common.{◌≡◌, refl, arith, sym, Some, false}
use Rattle.std.specs.Prelude.{slice_get}
use Rattle.std.proofs.Math.ListN.{length-set}
use Rattle.wasi_threads.specs.declared.entry.Event.TheVariants as event
use Rattle.wasi_threads.specs.History.{Standing}
use Rattle.wasi_threads.proofs.HistoryFacts.{kept_made, unstopped_set, any_set}
use Rattle.wasi_threads.proofs.state.State.stop.Goals as goal

pub overflow_sub-self : goal.overflow_sub-self
overflow_sub-self g c =
    let may = rw (← c.self.view_is) at c.requires.may in
    omega (arith, unstopped_set c.self.inside.stops.items c.args.pass.now.number may)

pub put-requires-clause-places : goal.put-requires-clause-places
put-requires-clause-places g c =
    let may = rw (← c.self.view_is) at c.requires.may in
    omega (arith, unstopped_set c.self.inside.stops.items c.args.pass.now.number may)

pub invariant_of-self : goal.invariant_of-self
invariant_of-self g c =
    let s : Standing = record { shared = c.self.inside.core; stops = c.self.inside.stops.items; saw = c.self.inside.saw } in
    let may : slice_get c.self.inside.stops.items c.args.pass.now.number ≡ Some false = rw (← c.self.view_is) at c.requires.may in
    let pass : c.number.result ≡ c.args.pass.now.number = c.number.ensures in
    rw pass (kept_made s _ _ _ _ _ _ _ _ _ _ _ _ _ _ _ _ _ _ _ _ c.args.pass.now.number event.Stop
    c.self.invariant c.put.ensures.history (cc) (omega arith) refl c.plain-made.ensures.event may
    c.plain-made.ensures.answer c.plain-made.ensures.bytes c.plain-made.ensures.wait refl
    c.put.ensures.counted (rw length-set c.self.invariant.parts) (sym (any_set c.self.inside.stops.items c.args.pass.now.number may)) (omega (arith, unstopped_set c.self.inside.stops.items c.args.pass.now.number may, c.self.invariant.owes)) (omega (arith, unstopped_set c.self.inside.stops.items c.args.pass.now.number may, c.self.invariant.room, c.self.invariant.owes, c.put.ensures.capacity)))
