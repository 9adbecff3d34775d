use Rattle.wasi_fs_streams.proofs.DirFacts.{dirs_end_once}
use Rattle.wasi_fs_streams.proofs.laws.directories_end_once.Goals as goal

pub returns : goal.returns
returns c = dirs_end_once
