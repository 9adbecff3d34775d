use Rattle.wasi_fs_streams.proofs.RunFacts.{read_paths_agree}
use Rattle.wasi_fs_streams.proofs.laws.read_paths_agree.Goals as goal

pub returns : goal.returns
returns c = read_paths_agree
