use Rattle.wasi_flags.proofs.FlagFacts.{keeps_names}
use Rattle.wasi_flags.proofs.laws.tables_keep_their_names.Goals as goal

pub returns : goal.returns
returns c = keeps_names
