use Rattle.wasi_host.specs.laws.Headline.{headline}
use Rattle.wasi_host.proofs.laws.a_run_of_the_host.Goals as goal

pub returns : goal.returns
returns c = headline
