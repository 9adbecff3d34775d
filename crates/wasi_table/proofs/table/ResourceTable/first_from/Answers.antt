use Rattle.std.proofs.Common.{sym, ap, ◌∙◌}
use Rattle.std.specs.Prelude.{slice_get}
use Rattle.std.specs.Map.{keys_of}
use Rattle.wasi_table.proofs.TableFacts.{first_is}
use Rattle.wasi_table.proofs.table.ResourceTable.first_from.Goals as goal

pub returns-in-Some : goal.returns-in-Some
returns-in-Some g c =
    let a = c.self.inside in
    sym (first_is c.args.self.now a.rows.entries a.freed.items a.next a.capacity c.self.view_is c.self.invariant.ordered c.args.number
    ∙ ap (λ es. slice_get (keys_of es) 0) (sym (c.range.ensures.between tt) ∙ c.in-Some.ensures.steps))

pub returns-in-None : goal.returns-in-None
returns-in-None g c =
    let a = c.self.inside in
    sym (first_is c.args.self.now a.rows.entries a.freed.items a.next a.capacity c.self.view_is c.self.invariant.ordered c.args.number
    ∙ ap (λ es. slice_get (keys_of es) 0) (sym (c.range.ensures.between tt) ∙ c.in-None.ensures.steps.0))
