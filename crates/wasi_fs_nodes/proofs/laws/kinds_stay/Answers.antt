use Rattle.wasi_fs_nodes.proofs.KindFacts.{made_stay, linked_stay, unlinked_stay, removed_stay, renamed_stay, sized_stay, wrote_stay, size_stay, times_stay}
use Rattle.wasi_fs_nodes.proofs.laws.kinds_stay.Goals as goal

pub returns-clause-made : goal.returns-clause-made
returns-clause-made c = made_stay

pub returns-clause-linked : goal.returns-clause-linked
returns-clause-linked c = linked_stay

pub returns-clause-unlinked : goal.returns-clause-unlinked
returns-clause-unlinked c = unlinked_stay

pub returns-clause-removed : goal.returns-clause-removed
returns-clause-removed c = removed_stay

pub returns-clause-renamed : goal.returns-clause-renamed
returns-clause-renamed c = renamed_stay

pub returns-clause-sized : goal.returns-clause-sized
returns-clause-sized c = sized_stay

pub returns-clause-wrote : goal.returns-clause-wrote
returns-clause-wrote c = wrote_stay

pub returns-clause-emptied : goal.returns-clause-emptied
returns-clause-emptied c = size_stay

pub returns-clause-times : goal.returns-clause-times
returns-clause-times c = times_stay
