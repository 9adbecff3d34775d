use Rattle.wasi_fs_streams.proofs.WriteFacts.{cancels_leave_writes}
use Rattle.wasi_fs_streams.proofs.laws.cancels_leave_writes.Goals as goal

pub returns : goal.returns
returns c = cancels_leave_writes
