use Rattle.wasi_fs_streams.proofs.EntryFacts.{show_entries}
use Rattle.wasi_fs_streams.proofs.laws.directory_streams_show_entries.Goals as goal

pub returns : goal.returns
returns c = show_entries
