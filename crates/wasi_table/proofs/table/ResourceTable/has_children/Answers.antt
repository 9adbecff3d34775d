use Rattle.std.proofs.Common.{sym, ap, ◌∙◌}
use Rattle.std.specs.Prelude.{nat_lt}
use Rattle.wasi_table.specs.Rows.{children_in}
use Rattle.wasi_table.proofs.TableFacts.{children_is}
use Rattle.wasi_table.proofs.table.ResourceTable.has_children.Goals as goal

pub returns-in-Some : goal.returns-in-Some
returns-in-Some g c =
    let a = c.self.inside in
    ap (λ o. nat_lt 0 (children_in o)) c.in-Some.ensures.value ∙ ap (nat_lt 0) (sym (c.self.invariant.counts c.args.number))
    ∙ sym (children_is _ a.rows.entries a.freed.items a.next a.capacity c.self.view_is c.self.invariant.ordered c.args.number)

pub returns-in-None : goal.returns-in-None
returns-in-None g c =
    let a = c.self.inside in
    ap (λ o. nat_lt 0 (children_in o)) c.in-None.ensures.value ∙ ap (nat_lt 0) (sym (c.self.invariant.counts c.args.number))
    ∙ sym (children_is _ a.rows.entries a.freed.items a.next a.capacity c.self.view_is c.self.invariant.ordered c.args.number)
