use Rattle.std.proofs.Common.{◌≡◌, ◌<◌, length, refl, arith, ap}
use Rattle.wasi_threads.specs.declared.entry.Event.TheVariants as event
use Rattle.wasi_threads.specs.History.{Standing, with_shared}
use Rattle.wasi_stdin.specs.Shared.{delivered, outcome_given, FitsOutcome}
use Rattle.wasi_threads.proofs.HistoryFacts.{kept_made, deliveries_most, some_owes}
use Rattle.wasi_threads.proofs.state.State.deliver.Goals as goal

pub deliver-requires-clause-room : goal.deliver-requires-clause-room
deliver-requires-clause-room g c = omega (arith, deliveries_most _ _ c.self.invariant.replays)

pub invariant_of-self : goal.invariant_of-self
invariant_of-self g c =
    let s : Standing = record { shared = c.self.inside.core; stops = c.self.inside.stops.items; saw = c.self.inside.saw } in
    let joined : 0 < length c.self.inside.stops.items = rw (← c.self.view_is) at c.requires.worker.1 in
    let fits = rw (← c.self.view_is) at c.requires.fits in
    let owes = some_owes c.self.inside.core.captured (λ size. FitsOutcome c.args.outcome c.args.bytes size) fits in
    let after : c.deliver.new.self ≡ delivered c.self.inside.core (outcome_given c.args.outcome c.args.bytes) = (cc) in
    kept_made s _ _ _ _ _ _ _ _ _ _ _ _ _ _ _ _ _ _ _ _ 0 (event.Deliver c.args.outcome)
    c.self.invariant c.put.ensures.history (cc) (omega arith) c.requires.worker.0 refl (joined, refl, fits)
    refl refl refl (ap (with_shared s) after)
    c.put.ensures.counted c.self.invariant.parts c.self.invariant.any (rw after (omega (arith, owes, c.self.invariant.owes))) (omega (arith, owes, c.self.invariant.owes, c.self.invariant.room, c.put.ensures.capacity))
