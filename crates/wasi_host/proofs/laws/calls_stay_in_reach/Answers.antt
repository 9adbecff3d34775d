use Rattle.wasi_host.specs.laws.Reach.{calls_stay}
use Rattle.wasi_host.proofs.laws.calls_stay_in_reach.Goals as goal

pub returns : goal.returns
returns c = calls_stay
