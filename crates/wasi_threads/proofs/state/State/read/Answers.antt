use Rattle.std.proofs.Common.{◌≡◌, ◌<◌, length, refl, arith, ◌∙◌, ap}
use Rattle.wasi_threads.specs.declared.entry.Event.TheVariants as event
use Rattle.wasi_threads.specs.History.{Standing, with_shared}
use Rattle.wasi_stdin.specs.Shared.{Shared, after_read}
use Rattle.wasi_threads.proofs.HistoryFacts.{kept_made, read_captured}
use Rattle.wasi_threads.proofs.state.State.read.Goals as goal

pub invariant_of-self-2 : goal.invariant_of-self-2
invariant_of-self-2 g c =
    let s : Standing = record { shared = c.self.inside.core; stops = c.self.inside.stops.items; saw = c.self.inside.saw } in
    let joined : c.args.pass.now.number < length c.self.inside.stops.items = rw (← c.self.view_is) at c.requires.joined in
    let after : c.read_parts.new.core ≡ after_read c.self.inside.core c.args.size = c.in_ok-parts.ensures.after in
    let same : c.read_parts.new.core.captured ≡ c.self.inside.core.captured = ap (λ (s : Shared). s.captured) after ∙ read_captured c.self.inside.core c.args.size in
    kept_made s _ _ _ _ _ _ _ _ _ _ _ _ _ _ _ _ _ _ _ _ c.args.pass.now.number (event.Read c.args.size)
    c.self.invariant c.put.ensures.history (cc) (omega arith) (cc) refl (joined, c.requires.some)
    c.in_ok-parts.ensures.answer c.in_ok-parts.ensures.bytes refl (ap (with_shared s) after)
    c.put.ensures.counted c.self.invariant.parts c.self.invariant.any (rw same c.self.invariant.owes) (omega (arith, c.in_ok-reserve-2.ensures.ok, c.put.ensures.capacity))
