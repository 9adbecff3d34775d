use Rattle.std.proofs.Common.{◌≡◌, ◌+◌, ◌<◌, length, refl, arith, cond, ℕ}
use Rattle.wasi_threads.specs.declared.entry.Event.TheVariants as event
use Rattle.wasi_threads.specs.History.{Standing, for_capture, unstopped}
use Rattle.wasi_threads.proofs.HistoryFacts.{kept_made}
use Rattle.wasi_threads.proofs.state.State.see_stop.Goals as goal

pub invariant_of-self : goal.invariant_of-self
invariant_of-self g c =
    let s : Standing = record { shared = c.self.inside.core; stops = c.self.inside.stops.items; saw = c.self.inside.saw } in
    let joined : 0 < length c.self.inside.stops.items = rw (← c.self.view_is) at c.requires.worker.1 in
    let may = rw (← c.self.view_is) at c.requires.may in
    let one : ◌≡◌ {A = ℕ} (cond c.self.inside.saw 0 1) 1 = rw may.1 refl in
    let owes : c.self.inside.places ≡ unstopped c.self.inside.stops.items + for_capture c.self.inside.core.captured + 1 = omega (arith, one, c.self.invariant.owes) in
    kept_made s _ _ _ _ _ _ _ _ _ _ _ _ _ _ _ _ _ _ _ _ 0 event.SawStop
    c.self.invariant c.put.ensures.history (cc) (omega arith) c.requires.worker.0 c.plain-made.ensures.event (joined, refl, may.0, may.1, may.2)
    c.plain-made.ensures.answer c.plain-made.ensures.bytes c.plain-made.ensures.wait refl
    c.put.ensures.counted c.self.invariant.parts c.self.invariant.any (omega (arith, owes)) (omega (arith, owes, c.self.invariant.room, c.put.ensures.capacity))
