use Rattle.wasi_fs_streams.proofs.DirFacts.{cancels_keep_dirs}
use Rattle.wasi_fs_streams.proofs.laws.cancels_keep_directories.Goals as goal

pub returns : goal.returns
returns c = cancels_keep_dirs
