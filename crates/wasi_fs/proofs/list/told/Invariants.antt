use Rattle.std.proofs.Common.{◌≡◌, ◌++◌}
use Rattle.std.specs.Vec.Iter.{into_iter_items}
use Rattle.wasi_fs_nodes.specs.Stats.{pairs_of}
use Rattle.wasi_fs.specs.Listing.{entries_told}
use Rattle.wasi_fs.proofs.list.told.Given as goal

abbrev pub invariant-loop-entry : goal.invariant-loop-entry
invariant-loop-entry l = l.entries.items ++ entries_told l.nodes (pairs_of (into_iter_items l.entry-iterator)) ≡ entries_told l.nodes (pairs_of l.fn.names.items)
