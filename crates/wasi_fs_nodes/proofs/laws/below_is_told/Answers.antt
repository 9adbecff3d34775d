use Rattle.wasi_fs_nodes.proofs.BelowFacts.{tells}
use Rattle.wasi_fs_nodes.proofs.laws.below_is_told.Goals as goal

pub returns : goal.returns
returns c = tells
