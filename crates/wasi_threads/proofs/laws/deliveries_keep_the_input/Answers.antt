use Rattle.wasi_threads.proofs.BytesFacts.{worked_bytes}
use Rattle.wasi_threads.proofs.laws.deliveries_keep_the_input.Goals as goal

pub returns : goal.returns
returns c = worked_bytes
