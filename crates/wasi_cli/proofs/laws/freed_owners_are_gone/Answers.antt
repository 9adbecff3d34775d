use Rattle.wasi_cli.proofs.TurnLaws.{freed_are_gone}
use Rattle.wasi_cli.proofs.laws.freed_owners_are_gone.Goals as goal

pub returns : goal.returns
returns c = freed_are_gone
