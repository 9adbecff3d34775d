use Rattle.wasi_fs_streams.proofs.DirFacts.{dir_paths_agree}
use Rattle.wasi_fs_streams.proofs.laws.directory_paths_agree.Goals as goal

pub returns : goal.returns
returns c = dir_paths_agree
