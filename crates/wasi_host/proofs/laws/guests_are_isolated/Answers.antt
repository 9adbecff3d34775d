use Rattle.wasi_host.specs.laws.Isolation.{isolated}
use Rattle.wasi_host.proofs.laws.guests_are_isolated.Goals as goal

pub returns : goal.returns
returns c = isolated
