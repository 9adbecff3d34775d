use Rattle.wasi_flags.proofs.FlagFacts.{each_doubles}
use Rattle.wasi_flags.proofs.laws.each_flag_doubles_the_last.Goals as goal

pub returns : goal.returns
returns c = each_doubles
