use Rattle.wasi_producers.proofs.RunFacts.{consumers_end}
use Rattle.wasi_producers.proofs.laws.consumers_end_once.Goals as goal

pub returns : goal.returns
returns c = consumers_end
