use Rattle.wasi_session.proofs.LiveFacts.{taken_in_place}
use Rattle.wasi_session.proofs.laws.lines_are_taken_in_their_place.Goals as goal

pub returns : goal.returns
returns c = taken_in_place
