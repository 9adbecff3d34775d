use Rattle.wasi_pipeline.proofs.EndFacts.{valid_runs_complete}
use Rattle.wasi_pipeline.proofs.laws.valid_runs_complete.Goals as goal

pub returns : goal.returns
returns c = valid_runs_complete
