use Rattle.std.proofs.Common.{◌≡◌, ◌++◌}
use Rattle.wasi_fs_nodes.specs.Names.{entries_of_map}
use Rattle.wasi_fs_nodes.specs.Stats.{pairs_of}
use Rattle.wasi_fs_nodes.proofs.names.Names.list.Given as goal

abbrev pub invariant-loop-name : goal.invariant-loop-name
invariant-loop-name l = pairs_of l.entries.items ++ entries_of_map l.name-iterator ≡ l.self
