use Rattle.wasi_fs_streams.proofs.WriteFacts.{write_paths_agree}
use Rattle.wasi_fs_streams.proofs.laws.write_paths_agree.Goals as goal

pub returns : goal.returns
returns c = write_paths_agree
