use Rattle.wasi_fs_streams.proofs.RunFacts.{show_files}
use Rattle.wasi_fs_streams.proofs.laws.read_streams_show_files.Goals as goal

pub returns : goal.returns
returns c = show_files
