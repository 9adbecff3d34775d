use Rattle.wasi_winrules.proofs.NameFacts.{trimmed_after, trimmed_all}
use Rattle.wasi_winrules.proofs.device.trim_end.Goals as goal

pub returns-in-Some : goal.returns-in-Some
returns-in-Some c = let is = c.in-Some.ensures in trimmed_after c.args.name.now c.in-Some.last is.0 is.1 is.2

pub returns-in-None : goal.returns-in-None
returns-in-None c = trimmed_all c.args.name.now c.in-None.ensures
