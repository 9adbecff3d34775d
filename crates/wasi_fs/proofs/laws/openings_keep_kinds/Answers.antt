use Rattle.wasi_fs.proofs.KeptFacts.{opened_stay, opened_is_of}
use Rattle.wasi_fs.proofs.laws.openings_keep_kinds.Goals as goal

pub returns-clause-kinds : goal.returns-clause-kinds
returns-clause-kinds c = opened_stay c.kinds_stay.ensures.made c.kinds_stay.ensures.emptied

pub returns-clause-of_tree : goal.returns-clause-of_tree
returns-clause-of_tree c = opened_is_of c.kinds_stay.ensures.emptied
