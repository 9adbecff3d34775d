use Rattle.wasi_fs_streams.proofs.EntryFacts.{next_is_first, next_is_no_error, next_is_none}
use Rattle.wasi_fs_streams.proofs.dir_stream.next_entry.Goals as goal

pub unreachable-requires : goal.unreachable-requires
unreachable-requires c = next_is_no_error c.args.left.now c.next.new.self c.next.result c.in-Some-Err._code c.next.ensures.steps (cc)

pub returns-in-Some-Ok : goal.returns-in-Some-Ok
returns-in-Some-Ok c = next_is_first c.args.left.now c.next.new.self c.next.result c.in-Some-Ok.entry c.next.ensures.steps (cc)

pub returns-in-None : goal.returns-in-None
returns-in-None c = next_is_none c.args.left.now c.next.new.self c.next.result c.next.ensures.steps (cc)
