use Rattle.std.proofs.Common.{◌≡◌, sym, ap, ◌∙◌}
use Rattle.std.specs.Prelude.{eqb}
use Rattle.std.proofs.lemmas.Bool.{eq-eqb, ne_eqb, cond-true, cond-false}
use Rattle.wasi_table.specs.Table.{push_refusal, full_refusal, is_live, live_count}
use Rattle.wasi_table.proofs.TableFacts.{count_is, live_is}
use Rattle.wasi_table.proofs.table.ResourceTable.refusal.Goals.{in-Some+else-not-contains_key, in_default}
use Rattle.wasi_table.proofs.table.ResourceTable.refusal.Goals as goal

pub returns-then-not-contains_key : goal.returns-then-not-contains_key
returns-then-not-contains_key g c =
    let a = c.self.inside in
    let t = c.args.self.now in
    sym (ap (push_refusal t) c.in-Some.is
    ∙ cond-false (is_live t c.in-Some.parent) _ _ (live_is t a.rows.entries a.freed.items a.next a.capacity c.self.view_is c.self.invariant.ordered c.in-Some.parent ∙ sym c.if-not-contains_key.ensures))

pub returns-then-len-most : goal.returns-then-len-most
returns-then-len-most g c =
    let a = c.self.inside in
    let t = c.args.self.now in
    let live = live_is t a.rows.entries a.freed.items a.next a.capacity c.self.view_is c.self.invariant.ordered in
    let count = count_is t a.rows.entries a.freed.items a.next a.capacity c.self.view_is c.self.invariant.ordered in
    let same : live_count t ≡ t.capacity = count ∙ sym c.len.ensures.len ∙ c.if-len-most.true ∙ ap (λ x. x.capacity) c.self.view_is in
    let whole : push_refusal t c.args.parent ≡ full_refusal t =
    elim c.match-parent.branch [
      | in-Some+else-not-contains_key w ↦ ap (push_refusal t) w.in-Some.is ∙ cond-true (is_live t w.in-Some.parent) _ _ (live w.in-Some.parent ∙ sym w.contains_key.ensures ∙ w.if-not-contains_key.false)
      | in_default w ↦ ap (push_refusal t) w.in_default.is
    ] in
    sym (whole ∙ cond-true (eqb (live_count t) t.capacity) _ _ (eq-eqb _ _ same))

pub returns : goal.returns
returns g c =
    let a = c.self.inside in
    let t = c.args.self.now in
    let live = live_is t a.rows.entries a.freed.items a.next a.capacity c.self.view_is c.self.invariant.ordered in
    let count = count_is t a.rows.entries a.freed.items a.next a.capacity c.self.view_is c.self.invariant.ordered in
    let whole : push_refusal t c.args.parent ≡ full_refusal t =
    elim c.match-parent.branch [
      | in-Some+else-not-contains_key w ↦ ap (push_refusal t) w.in-Some.is ∙ cond-true (is_live t w.in-Some.parent) _ _ (live w.in-Some.parent ∙ sym w.contains_key.ensures ∙ w.if-not-contains_key.false)
      | in_default w ↦ ap (push_refusal t) w.in_default.is
    ] in
    sym (whole ∙ cond-false (eqb (live_count t) t.capacity) _ _ (ne_eqb _ _ (λ same. c.if-len-most.false (c.len.ensures.len ∙ sym count ∙ same ∙ sym (ap (λ x. x.capacity) c.self.view_is)))))
