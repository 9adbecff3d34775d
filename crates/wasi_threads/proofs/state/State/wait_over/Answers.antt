use Rattle.std.proofs.Common.{◌≡◌, ◌<◌, length, refl, arith, true}
use Rattle.std.specs.Prelude.{◌||◌}
use Rattle.wasi_threads.specs.declared.entry.Event.TheVariants as event
use Rattle.wasi_threads.specs.History.{Standing, is_any, is_over}
use Rattle.wasi_threads.proofs.HistoryFacts.{kept_made}
use Rattle.wasi_threads.proofs.state.State.wait_over.Goals as goal

pub invariant_of-self-3 : goal.invariant_of-self-3
invariant_of-self-3 g c =
    let s : Standing = record { shared = c.self.inside.core; stops = c.self.inside.stops.items; saw = c.self.inside.saw } in
    let joined : c.args.pass.now.number < length c.self.inside.stops.items = rw (← c.self.view_is) at c.requires.joined in
    let may : is_over c.args.wait.now c.self.inside.core || is_any c.self.inside.stops.items ≡ true = rw (← c.self.view_is) at c.requires.may in
    kept_made s _ _ _ _ _ _ _ _ _ _ _ _ _ _ _ _ _ _ _ _ c.args.pass.now.number (event.WaitOver c.args.wait.now)
    c.self.invariant c.put.ensures.history (cc) (omega arith) (cc) (cc) (joined, may)
    (cc) (cc) (cc) refl
    c.put.ensures.counted c.self.invariant.parts c.self.invariant.any c.self.invariant.owes (omega (arith, c.in_ok-reserve-2.ensures.ok, c.put.ensures.capacity))
