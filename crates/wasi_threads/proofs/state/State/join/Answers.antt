use Rattle.std.proofs.Common.{◌≡◌, ◌+◌, ◌++◌, ◌∷◌, [], length, length-append, refl, arith, ◌∙◌, sym, ap, false, List, Bool}
use Rattle.wasi_threads.specs.declared.entry.Event.TheVariants as event
use Rattle.wasi_threads.specs.History.{Standing, is_any}
use Rattle.wasi_threads.proofs.HistoryFacts.{kept_made, unstopped_more, any_more}
use Rattle.wasi_threads.proofs.state.State.join.Goals as goal

pub invariant_of-self-2 : goal.invariant_of-self-2
invariant_of-self-2 g c =
    let s : Standing = record { shared = c.self.inside.core; stops = c.self.inside.stops.items; saw = c.self.inside.saw } in
    let stops : c.push_reserved.new.self.items ≡ c.self.inside.stops.items ++ false ∷ [] = (cc) in
    let long : length c.push_reserved.new.self.items ≡ length c.self.inside.stops.items + 1 = rw stops (omega (arith, length-append c.self.inside.stops.items (false ∷ []))) in
    kept_made s _ _ _ _ _ _ _ _ _ _ _ _ _ _ _ _ _ _ _ _ (length c.self.inside.stops.items) event.Join
    c.self.invariant c.put.ensures.history (cc) (omega arith) (c.fresh-mine.ensures.number ∙ omega arith) c.plain-made.ensures.event refl
    c.plain-made.ensures.answer c.plain-made.ensures.bytes c.plain-made.ensures.wait
    (ap {B = Standing} (λ (b : List Bool). record { shared = c.self.inside.core; stops = b; saw = c.self.inside.saw }) stops)
    c.put.ensures.counted (omega (arith, long, c.part.ensures.rest, c.self.invariant.parts))
    (c.self.invariant.any ∙ sym (ap is_any stops ∙ any_more c.self.inside.stops.items))
    (rw stops (omega (arith, unstopped_more c.self.inside.stops.items, c.self.invariant.owes)))
    (omega (arith, c.in_ok-reserve-3.ensures.ok, c.put.ensures.capacity))
