use Rattle.wasi_producers.proofs.RunFacts.{hands_out}
use Rattle.wasi_producers.proofs.laws.producers_hand_out_what_was_read.Goals as goal

pub returns : goal.returns
returns c = hands_out
