use Rattle.wasi_stdin.specs.laws.Kept.{faults_told_once}
use Rattle.wasi_stdin.proofs.laws.faults_are_told_once.Goals as goal

pub returns : goal.returns
returns c = faults_told_once
