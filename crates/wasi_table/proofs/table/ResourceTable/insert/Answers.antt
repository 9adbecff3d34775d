use Rattle.std.proofs.Common.{◌≡◌, ◌+◌, ◌-◌, ◌≤◌, ◌<◌, Some, [], length, reverse, vec_capacity, sym, ap, subst, ◌∙◌, arith}
use Rattle.std.specs.Prelude.{slice_get}
use Rattle.wasi_table.specs.Table.{number_of, next_after, freed_after}
use Rattle.wasi_table.proofs.Steps.{can_add, added_kept, last_number, last_next, last_popped, none_freed}
use Rattle.wasi_table.proofs.table.ResourceTable.insert.Goals as goal

pub add-requires : goal.add-requires
add-requires g c =
    let a = c.self.inside in
    let is : Some c.in-Some.field-0.now ≡ slice_get a.freed.items (length a.freed.items - 1) =
    c.in-Some.ensures.value ∙ ap (λ xs. slice_get xs (length xs - 1)) c.deref.ensures.value in
    can_add _ a.rows.entries a.freed.items a.next a.capacity _ c.self.view_is c.self.invariant c.in-Some.field-0.now c.args.parent (last_number a.freed.items c.in-Some.field-0.now a.next is) c.requires

pub invariant_of-self-in-Some : goal.invariant_of-self-in-Some
invariant_of-self-in-Some g c =
    let a = c.self.inside in
    let is : Some c.in-Some.field-0.now ≡ slice_get a.freed.items (length a.freed.items - 1) =
    c.in-Some.ensures.value ∙ ap (λ xs. slice_get xs (length xs - 1)) c.deref.ensures.value in
    added_kept _ a.rows.entries a.freed.items a.next a.capacity _ c.self.view_is c.self.invariant c.add.new.rows.entries c.in-Some.field-0.now c.args.entry c.args.parent
    (last_number a.freed.items c.in-Some.field-0.now a.next is) c.in_ok-add-in-Some.ensures.ok c.requires c.pop.new.self.items a.next
    (last_popped a.freed.items c.in-Some.field-0.now a.next is c.pop.new.self.items c.pop.result c.pop.ensures.items (λ lt. c.pop.ensures.variant.1 (subst (λ k. 0 < k) (sym a.freed.ok.0) lt)))
    (last_next a.freed.items c.in-Some.field-0.now a.next is) _ (subst (λ k. a.next ≤ k) (sym c.pop.ensures.capacity) c.self.invariant.places)

pub add-requires-in-None : goal.add-requires-in-None
add-requires-in-None g c =
    let a = c.self.inside in
    let none : a.freed.items ≡ [] = none_freed a.freed.items (c.in-None.ensures.value ∙ ap (λ xs. slice_get xs (length xs - 1)) c.deref.ensures.value) in
    can_add _ a.rows.entries a.freed.items a.next a.capacity _ c.self.view_is c.self.invariant a.next c.args.parent (ap (λ xs. number_of (reverse xs) a.next) none) c.requires

pub invariant_of-self-in-None : goal.invariant_of-self-in-None
invariant_of-self-in-None g c =
    let a = c.self.inside in
    let none : a.freed.items ≡ [] = none_freed a.freed.items (c.in-None.ensures.value ∙ ap (λ xs. slice_get xs (length xs - 1)) c.deref.ensures.value) in
    let kept : c.try_reserve.new.self.items ≡ [] = c.try_reserve.ensures.items ∙ none in
    let place = c.in_ok-try_reserve-in-None.ensures.ok in
    added_kept _ a.rows.entries a.freed.items a.next a.capacity _ c.self.view_is c.self.invariant c.add-in-None.new.rows.entries a.next c.args.entry c.args.parent
    (ap (λ xs. number_of (reverse xs) a.next) none) c.in_ok-add-in-None.ensures.ok c.requires c.try_reserve.new.self.items (a.next + 1)
    (ap reverse kept ∙ sym (ap (λ xs. freed_after (reverse xs)) none)) (sym (ap (λ xs. next_after (reverse xs) a.next) none)) (vec_capacity c.try_reserve.new.self) (omega (arith, place))
