use Rattle.wasi_fs.proofs.StayFacts.{size_stays, times_stay, times_stay_at, directory_stays, symlink_stays, link_stays, remove_stays, unlink_stays, rename_stays}
use Rattle.wasi_fs.proofs.laws.calls_keep_kinds.Goals as goal

pub returns-clause-size : goal.returns-clause-size
returns-clause-size c = size_stays c.kinds_stay.ensures.sized

pub returns-clause-times : goal.returns-clause-times
returns-clause-times c = times_stay c.kinds_stay.ensures.times

pub returns-clause-times_at : goal.returns-clause-times_at
returns-clause-times_at c = times_stay_at c.kinds_stay.ensures.times

pub returns-clause-directory : goal.returns-clause-directory
returns-clause-directory c = directory_stays c.kinds_stay.ensures.made

pub returns-clause-symlink : goal.returns-clause-symlink
returns-clause-symlink c = symlink_stays c.kinds_stay.ensures.made

pub returns-clause-link : goal.returns-clause-link
returns-clause-link c = link_stays c.kinds_stay.ensures.linked

pub returns-clause-remove : goal.returns-clause-remove
returns-clause-remove c = remove_stays c.kinds_stay.ensures.removed

pub returns-clause-unlink : goal.returns-clause-unlink
returns-clause-unlink c = unlink_stays c.kinds_stay.ensures.unlinked

pub returns-clause-rename : goal.returns-clause-rename
returns-clause-rename c = rename_stays c.kinds_stay.ensures.renamed
