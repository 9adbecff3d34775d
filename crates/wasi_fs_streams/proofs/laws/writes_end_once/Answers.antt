use Rattle.wasi_fs_streams.proofs.WriteFacts.{writes_end_once}
use Rattle.wasi_fs_streams.proofs.laws.writes_end_once.Goals as goal

pub returns : goal.returns
returns c = writes_end_once
