use Rattle.wasi_fs_streams.proofs.RunFacts.{reads_end_once}
use Rattle.wasi_fs_streams.proofs.laws.reads_end_once.Goals as goal

pub returns : goal.returns
returns c = reads_end_once
