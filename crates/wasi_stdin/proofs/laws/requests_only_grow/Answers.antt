use Rattle.wasi_stdin.specs.laws.Kept.{requests_only_grow}
use Rattle.wasi_stdin.proofs.laws.requests_only_grow.Goals as goal

pub returns : goal.returns
returns c = requests_only_grow
