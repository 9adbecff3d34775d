use Rattle.wasi_cli.proofs.TurnLaws.{turns_pass_in_order}
use Rattle.wasi_cli.proofs.laws.turns_pass_in_order.Goals as goal

pub returns : goal.returns
returns c = turns_pass_in_order
