use Rattle.std.proofs.Common.{Ok, Some, None, sym, ap, ◌∙◌}
use Rattle.wasi_table.specs.Table.{kind_in}
use Rattle.wasi_table.proofs.TableFacts.{held_is}
use Rattle.wasi_table.proofs.table.ResourceTable.kind_of.Goals as goal

pub returns-in-Some : goal.returns-in-Some
returns-in-Some g c =
    let a = c.self.inside in
    ap Ok c.kind.ensures
    ∙ ap (kind_in g.K.Kinded.kind_number) (sym (held_is _ a.rows.entries a.freed.items a.next a.capacity c.self.view_is c.self.invariant.ordered c.args.number (Some c.in-Some.row.now) c.in-Some.ensures.value))

pub returns-in-None : goal.returns-in-None
returns-in-None g c =
    let a = c.self.inside in
    ap (kind_in g.K.Kinded.kind_number) (sym (held_is _ a.rows.entries a.freed.items a.next a.capacity c.self.view_is c.self.invariant.ordered c.args.number None c.in-None.ensures.value))
