use Rattle.wasi_reply.proofs.FixedOutputs.{outputs_fix}
use Rattle.wasi_reply.proofs.laws.lines_fix_outputs.Goals as goal

pub returns : goal.returns
returns c = outputs_fix
