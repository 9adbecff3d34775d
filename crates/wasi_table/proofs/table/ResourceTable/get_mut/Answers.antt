use Rattle.std.proofs.Common.{is_some, inl, inr, ◌⊎◌, sym, ap, ◌∙◌, ◌≡◌}
use Rattle.wasi_table.specs.Rows.{table_of}
use Rattle.wasi_table.proofs.TableFacts.{got-none, got-found}
use Rattle.wasi_table.proofs.Steps.{written_view, written_kept}
use Rattle.wasi_table.proofs.table.ResourceTable.get_mut.Goals as goal

same_loan : {N W T : Type 0} {name : N} {f h : W → T} → ((w : W) → f w ≡ h w) → ◌≡◌ {A = (N × (W → T)) ⊎ T} (inl (name, f)) (inl (name, h))
same_loan {name = name} same = λ i. inl (name, λ w. same w i)

pub invariant_of-self-lent : goal.invariant_of-self-lent
invariant_of-self-lent g c = λ w.
    let a = c.self.inside in
    let old = c.in-Some.row.now in
    let found = c.in-Some.ensures.value in
    let holds = c.get_mut.follows.holds (record old { entry = w }) in
    written_kept c.args.self.now a.rows.entries a.freed.items a.next a.capacity _ c.self.view_is c.self.invariant _ c.args.number old w found holds.0 holds.4 (holds.3 (sym (ap is_some found))).0

pub returns-in-Some : goal.returns-in-Some
returns-in-Some g c =
    let a = c.self.inside in
    let old = c.in-Some.row.now in
    let found = c.in-Some.ensures.value in (
      same_loan (λ w.
          let holds = c.get_mut.follows.holds (record old { entry = w }) in
          written_view c.args.self.now a.rows.entries a.freed.items a.next a.capacity _ c.self.view_is c.self.invariant _ c.args.number old w found holds.0 holds.4 (holds.3 (sym (ap is_some found))).0),
      record {
        writes = tt;
        value = got-found c.args.self.now a.rows.entries a.freed.items a.next a.capacity c.self.view_is c.self.invariant.ordered g.K.Kinded.kind_number c.args.number c.args.kind old _ found c.in_default.ensures;
      },
    )

pub returns-in-None : goal.returns-in-None
returns-in-None g c =
    let a = c.self.inside in (
      ap inr (ap (λ rows. table_of rows.entries a.freed.items a.next a.capacity) c.get_mut.follows.holds-at-none ∙ c.self.view_is),
      record {
        writes = tt;
        value = got-none _ a.rows.entries a.freed.items a.next a.capacity c.self.view_is c.self.invariant.ordered g.K.Kinded.kind_number c.args.number c.args.kind c.in-None.ensures.value;
      },
    )
