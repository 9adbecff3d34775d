use Rattle.wasi_fs_streams.proofs.RunFacts.{cancels_leave}
use Rattle.wasi_fs_streams.proofs.laws.cancels_leave_reads.Goals as goal

pub returns : goal.returns
returns c = cancels_leave
