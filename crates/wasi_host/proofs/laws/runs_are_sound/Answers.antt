use Rattle.wasi_host.proofs.SoundFacts.{runs_are_sound}
use Rattle.wasi_host.proofs.laws.runs_are_sound.Goals as goal

pub returns : goal.returns
returns c = runs_are_sound
