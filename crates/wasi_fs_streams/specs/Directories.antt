-- A directory's entries as a stream.
use Rattle.std.specs.Prelude.{◌≡◌, ◌<◌, ◌≤◌, ℕ, List, length, take, drop, map, Option, Result, Ok, Err}
use Rattle.std.specs.Iterator.{YieldsFirst}
use Rattle.wasi_fs.specs.declared.entries.DirectoryEntry.{DirectoryEntry}
use Rattle.wasi_fs_types.specs.declared.error_code.ErrorCode.{ErrorCode}
use Rattle.wasi_producers.specs.Iterators.{ItemsPolled}
use Rattle.wasi_producers.specs.declared.iterator.FallibleIteratorProducer.{FallibleIteratorProducer}
use Rattle.wasi_producers.specs.declared.iterator.FallibleIteratorProducer.TheVariants.{Open, Ended}
use Rattle.wasi_producers.specs.declared.results.StreamResult.{StreamResult}
use Rattle.wasi_producers.specs.declared.results.StreamResult.TheVariants.{Completed, Dropped, Cancelled, Pending}

-- the stream of what was listed; a fault makes one that ended with its code
abbrev pub directory_streamed : Result (List DirectoryEntry) ErrorCode → FallibleIteratorProducer (List DirectoryEntry) ErrorCode
directory_streamed (Ok entries) = Open entries
directory_streamed (Err code) = Ended (Err code)

-- A POLL of an open one: as many entries as the poll may hand out, or the last ones and the end
abbrev pub EntriesPolled : List DirectoryEntry → ℕ → StreamResult → List DirectoryEntry → FallibleIteratorProducer (List DirectoryEntry) ErrorCode → Type 0
EntriesPolled entries most Completed items after = (most ≤ length entries) × (items ≡ take most entries) × (after ≡ Open (drop most entries))
EntriesPolled entries most Dropped items after = (length entries < most) × (items ≡ entries) × (after ≡ Ended (Ok tt))
EntriesPolled entries most Cancelled items after = ⊥
EntriesPolled entries most Pending items after = ⊥

-- what `next` of the entries to come gives
abbrev pub entries_next : List DirectoryEntry → Option (Result DirectoryEntry ErrorCode) → List DirectoryEntry → Type 0
entries_next = YieldsFirst (λ listing. map (λ entry. Ok entry) listing)

abbrev pub StreamsShowEntries : Type 0
StreamsShowEntries = (entries : List DirectoryEntry) (most : ℕ) (result : StreamResult) (items : List DirectoryEntry) (after : FallibleIteratorProducer (List DirectoryEntry) ErrorCode)
    → ItemsPolled entries_next (Open entries) most result items after → EntriesPolled entries most result items after
