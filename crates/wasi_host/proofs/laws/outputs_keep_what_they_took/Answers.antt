use Rattle.wasi_host.specs.laws.Kept.{outputs_keep}
use Rattle.wasi_host.proofs.laws.outputs_keep_what_they_took.Goals as goal

pub returns : goal.returns
returns c = outputs_keep
