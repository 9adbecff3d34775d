use Rattle.wasi_pipeline.proofs.WaitingFacts.{takes_nothing}
use Rattle.wasi_pipeline.proofs.laws.taking_nothing_has_a_cause.Goals as goal

pub returns : goal.returns
returns c = takes_nothing
