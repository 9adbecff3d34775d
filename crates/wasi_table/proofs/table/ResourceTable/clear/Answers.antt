use Rattle.std.proofs.Common.{ap, ◌∙◌}
use Rattle.wasi_table.specs.Table.{new_table}
use Rattle.wasi_table.proofs.TableFacts.{kept_empty, empty_view}
use Rattle.wasi_table.proofs.table.ResourceTable.clear.Goals as goal

pub invariant_of-self : goal.invariant_of-self
invariant_of-self g c =
    kept_empty c.clear.new.self.entries c.clear-2.new.self.items c.self.inside.capacity _ c.clear.ensures.empty c.clear-2.ensures.items c.clear.ensures.ordered
    c.self.invariant.sound.not_empty c.self.invariant.sound.bound

pub returns : goal.returns
returns g c =
    empty_view c.clear.new.self.entries c.clear-2.new.self.items c.self.inside.capacity c.clear.ensures.empty c.clear-2.ensures.items
    ∙ ap (λ t. new_table t.capacity) c.self.view_is
