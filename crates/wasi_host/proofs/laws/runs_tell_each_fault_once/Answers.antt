use Rattle.wasi_host.proofs.SoundFacts.{runs_tell_once}
use Rattle.wasi_host.proofs.laws.runs_tell_each_fault_once.Goals as goal

pub returns : goal.returns
returns c = runs_tell_once
