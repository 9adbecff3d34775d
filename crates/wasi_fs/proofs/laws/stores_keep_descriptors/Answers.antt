use Rattle.wasi_fs.proofs.StoredFacts.{read_keeps, write_keeps}
use Rattle.wasi_fs.proofs.laws.stores_keep_descriptors.Goals as goal

pub returns-clause-read : goal.returns-clause-read
returns-clause-read c = read_keeps

pub returns-clause-write : goal.returns-clause-write
returns-clause-write c = write_keeps
