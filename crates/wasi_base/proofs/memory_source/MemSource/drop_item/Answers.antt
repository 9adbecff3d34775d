use Rattle.std.proofs.Common.{refl}
use Rattle.wasi_base.proofs.SourceFacts.{drop_one}
use Rattle.wasi_base.proofs.memory_source.MemSource.drop_item.Goals as goal

pub returns : goal.returns
returns c = rw (← c.self.view_is) (rw (drop_one c.self.inside.plan.items c.self.inside.next) refl)
