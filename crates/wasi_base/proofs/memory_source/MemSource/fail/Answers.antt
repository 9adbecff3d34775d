use Rattle.std.proofs.Common.{refl}
use Rattle.wasi_base.proofs.SourceFacts.{drop_one}
use Rattle.wasi_base.proofs.memory_source.MemSource.fail.Goals as goal

pub returns-clause-told : goal.returns-clause-told
returns-clause-told c = rw (← c.self.view_is) (rw (drop_one c.self.inside.plan.items c.self.inside.next) refl)
