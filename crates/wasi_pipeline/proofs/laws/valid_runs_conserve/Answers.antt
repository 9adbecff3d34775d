use Rattle.wasi_pipeline.proofs.StepFacts.{valid_runs_conserve}
use Rattle.wasi_pipeline.proofs.laws.valid_runs_conserve.Goals as goal

pub returns : goal.returns
returns c = valid_runs_conserve
