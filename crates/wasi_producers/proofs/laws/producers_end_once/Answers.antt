use Rattle.wasi_producers.proofs.RunFacts.{ends_once}
use Rattle.wasi_producers.proofs.laws.producers_end_once.Goals as goal

pub returns : goal.returns
returns c = ends_once
