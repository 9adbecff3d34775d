use Rattle.wasi_host.proofs.SoundFacts.{runs_keep_requests}
use Rattle.wasi_host.proofs.laws.runs_keep_requests.Goals as goal

pub returns : goal.returns
returns c = runs_keep_requests
