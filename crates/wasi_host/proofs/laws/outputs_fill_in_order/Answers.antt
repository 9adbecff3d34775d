use Rattle.wasi_host.specs.laws.Filled.{outputs_fill}
use Rattle.wasi_host.proofs.laws.outputs_fill_in_order.Goals as goal

pub returns : goal.returns
returns c = outputs_fill
