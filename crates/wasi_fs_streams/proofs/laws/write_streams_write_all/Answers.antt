use Rattle.wasi_fs_streams.proofs.WriteFacts.{write_all}
use Rattle.wasi_fs_streams.proofs.laws.write_streams_write_all.Goals as goal

pub returns : goal.returns
returns c = write_all
