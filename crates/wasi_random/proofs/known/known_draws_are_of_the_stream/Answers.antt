use Rattle.wasi_random.proofs.KnownFacts.{draws_are}
use Rattle.wasi_random.proofs.known.known_draws_are_of_the_stream.Goals as goal

pub returns : goal.returns
returns c = draws_are
