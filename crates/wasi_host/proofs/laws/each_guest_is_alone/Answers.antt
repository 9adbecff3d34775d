use Rattle.wasi_host.specs.laws.Isolation.{alone}
use Rattle.wasi_host.proofs.laws.each_guest_is_alone.Goals as goal

pub returns : goal.returns
returns c = λ steps told g apart. alone g steps told apart
