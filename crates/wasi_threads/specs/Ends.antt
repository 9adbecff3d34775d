-- Why the worker is done.
use Rattle.std.specs.Prelude.{Bool, not, List, Option, Some, None}
use Rattle.wasi_threads.specs.declared.entry.Entry.{Entry}
use Rattle.wasi_threads.specs.declared.worker.WorkerEnd.{WorkerEnd}
use Rattle.wasi_threads.specs.declared.worker.WorkerEnd.TheVariants as end
use Rattle.wasi_threads.specs.Passes.{has_sight}
use Rattle.wasi_threads.specs.Rounds.{has_last}

-- its entries show it; while it isn't done they hold no sight of a stop
abbrev pub end_holds : Option WorkerEnd → List Entry → Bool
end_holds None entries = not (has_sight entries)
end_holds (Some end.Stopped) entries = has_sight entries
end_holds (Some end.Ended) entries = has_last entries
