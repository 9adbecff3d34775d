use Rattle.wasi_flags.proofs.FlagFacts.{named_stay}
use Rattle.wasi_flags.proofs.laws.named_bits_stay.Goals as goal

pub returns : goal.returns
returns c = named_stay
