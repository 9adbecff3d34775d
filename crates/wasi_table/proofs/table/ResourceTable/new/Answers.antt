use Rattle.wasi_table.proofs.TableFacts.{kept_empty, empty_view}
use Rattle.wasi_table.proofs.table.ResourceTable.new.Goals as goal

pub invariant_of-result : goal.invariant_of-result
invariant_of-result g c = kept_empty _ _ _ _ c.new.ensures.empty c.new-2.ensures.items c.new.ensures.ordered c.requires.not_empty c.requires.bound

pub returns : goal.returns
returns g c = empty_view _ _ _ c.new.ensures.empty c.new-2.ensures.items
