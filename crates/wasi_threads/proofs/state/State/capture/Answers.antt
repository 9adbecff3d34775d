use Rattle.std.proofs.Common.{◌≡◌, ◌+◌, ◌<◌, length, refl, arith, ◌∙◌, ap, Some}
use Rattle.wasi_threads.specs.declared.entry.Event.TheVariants as event
use Rattle.wasi_threads.specs.History.{Standing, owed, with_shared}
use Rattle.wasi_stdin.specs.Shared.{after_capture, capture_of}
use Rattle.wasi_threads.proofs.HistoryFacts.{kept_made, capture_owes}
use Rattle.wasi_threads.proofs.state.State.capture.Goals as goal

pub invariant_of-self-2 : goal.invariant_of-self-2
invariant_of-self-2 g c =
    let s : Standing = record { shared = c.self.inside.core; stops = c.self.inside.stops.items; saw = c.self.inside.saw } in
    let joined : 0 < length c.self.inside.stops.items = rw (← c.self.view_is) at c.requires.worker.1 in
    let work = rw (← c.self.view_is) at c.requires.work in
    let after : c.capture.new.self ≡ after_capture c.self.inside.core = c.capture.ensures.after in
    let size : capture_of c.self.inside.core ≡ Some c.in-Some.size = (cc) in
    let pass : c.reserve.new.self.number ≡ 0 = c.in_ok-reserve.ensures.same.number ∙ c.requires.worker.0 in
    let owes : c.self.inside.places + 1 ≡ owed (with_shared s c.capture.new.self) = rw after (omega (arith, capture_owes c.self.inside.core work.0, c.self.invariant.owes)) in
    kept_made s _ _ _ _ _ _ _ _ _ _ _ _ _ _ _ _ _ _ _ _ 0 event.Capture
    c.self.invariant c.put.ensures.history (cc) (omega arith) pass (cc) (joined, refl, work.1, work.0)
    (c.plain-made.ensures.answer ∙ rw size refl) c.plain-made.ensures.bytes c.plain-made.ensures.wait (ap (with_shared s) after)
    c.put.ensures.counted c.self.invariant.parts c.self.invariant.any owes (omega (arith, c.in_ok-reserve-2.ensures.ok, c.put.ensures.capacity))
