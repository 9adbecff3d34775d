use Rattle.std.proofs.Common.{sym, ◌∙◌}
use Rattle.wasi_table.proofs.TableFacts.{got-none, got-other, got-same}
use Rattle.wasi_table.proofs.table.ResourceTable.get.Goals as goal

pub returns-in_default : goal.returns-in_default
returns-in_default g c =
    let a = c.self.inside in
    got-none _ a.rows.entries a.freed.items a.next a.capacity c.self.view_is c.self.invariant.ordered g.K.Kinded.kind_number c.args.number c.args.kind c.in_default.ensures.value

pub returns-then-kind : goal.returns-then-kind
returns-then-kind g c =
    let a = c.self.inside in
    got-other _ a.rows.entries a.freed.items a.next a.capacity c.self.view_is c.self.invariant.ordered g.K.Kinded.kind_number c.args.number c.args.kind c.in-Some.row.now c.in-Some.ensures.value
    (λ same. c.if-kind.true (c.kind.ensures ∙ same))

pub returns : goal.returns
returns g c =
    let a = c.self.inside in
    got-same _ a.rows.entries a.freed.items a.next a.capacity c.self.view_is c.self.invariant.ordered g.K.Kinded.kind_number c.args.number c.args.kind c.in-Some.row.now c.in-Some.ensures.value
    (sym c.kind.ensures ∙ c.if-kind.false)
