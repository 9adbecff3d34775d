-- What holds of every run of a directory's stream, on either path, over a tree that nobody changes, with no fault planned.
use Rattle.std.specs.Prelude.{◌≡◌, ℕ, List, [], ◌∷◌, ◌++◌, Option, Some, None, Result, Ok, Err, Bool}
use Rattle.wasi_fs.specs.Listing.{entries_told, listed}
use Rattle.wasi_fs.specs.Trees.{TreeState}
use Rattle.wasi_fs.specs.declared.descriptor.Dir.{Dir}
use Rattle.wasi_fs.specs.declared.entries.DirectoryEntry.{DirectoryEntry}
use Rattle.wasi_fs_nodes.specs.Nodes.{names_at}
use Rattle.wasi_fs_types.specs.declared.error_code.ErrorCode.{ErrorCode}
use Rattle.wasi_fs_streams.specs.Directories.{directory_streamed, entries_next}
use Rattle.wasi_fs_streams.specs.DirStreams.{dir_turned, dir_polled, dir_closed, dir_sent}
use Rattle.wasi_fs_streams.specs.declared.dir_stream.ReadDirStream.{ReadDirStream}
use Rattle.wasi_fs_streams.specs.declared.dir_stream.ReadDirStream.TheVariants.{NotStarted, Ended}
use Rattle.wasi_fs_streams.specs.declared.task.TaskTurn.TheVariants as turn
use Rattle.wasi_producers.specs.Iterators.{ItemsPolled}
use Rattle.wasi_producers.specs.declared.iterator.FallibleIteratorProducer.{FallibleIteratorProducer}
use Rattle.wasi_producers.specs.declared.iterator.FallibleIteratorProducer.TheVariants as producer
use Rattle.wasi_producers.specs.declared.results.StreamResult.{StreamResult}
use Rattle.wasi_producers.specs.declared.results.StreamResult.TheVariants.{Cancelled, Dropped}

-- the entries of a directory, by ascending names
abbrev pub entries_in : TreeState → Dir → List DirectoryEntry
entries_in tree dir = entries_told tree.nodes (names_at tree.nodes dir.node)

-- WHAT HAPPENS TO A DIRECTORY'S STREAM BY A TASK: a poll with the guest's room, that is to finish or not, or a turn
pub data DirEvent : Type 0 where
  Poll : Option ℕ → Bool → DirEvent
  Turn : DirEvent

abbrev pub after_dir_event : TreeState → DirEvent → ReadDirStream → ReadDirStream
after_dir_event tree (Poll room finish) s = (dir_polled room finish s).1
after_dir_event tree Turn s = (dir_turned tree s).1

abbrev pub entry_list : Option DirectoryEntry → List DirectoryEntry
entry_list None = []
entry_list (Some entry) = entry ∷ []

abbrev pub entries_out : DirEvent → ReadDirStream → List DirectoryEntry
entries_out (Poll room finish) s = entry_list (dir_polled room finish s).0.1
entries_out Turn s = []

-- the stream after these, and all the entries that it hands out
abbrev pub dir_at_end : TreeState → List DirEvent → ReadDirStream → ReadDirStream
dir_at_end tree [] s = s
dir_at_end tree (event ∷ events) s = dir_at_end tree events (after_dir_event tree event s)

abbrev pub all_entries : TreeState → List DirEvent → ReadDirStream → List DirectoryEntry
all_entries tree [] s = []
all_entries tree (event ∷ events) s = entries_out event s ++ all_entries tree events (after_dir_event tree event s)

-- the same on the blocking path: polls that may hand out so many entries each led there, and handed out these
abbrev pub ArePolled : List ℕ → FallibleIteratorProducer (List DirectoryEntry) ErrorCode → List DirectoryEntry → FallibleIteratorProducer (List DirectoryEntry) ErrorCode → Type 0
ArePolled [] before out after = (out ≡ []) × (before ≡ after)
ArePolled (most ∷ mosts) before out after =
    (result : StreamResult) × (items : List DirectoryEntry) × (between : FallibleIteratorProducer (List DirectoryEntry) ErrorCode) × (rest : List DirectoryEntry)
    × ItemsPolled entries_next before most result items between × ArePolled mosts between rest after × (out ≡ items ++ rest)

-- THE TASK PATH EQUALS THE BLOCKING PATH: once both streams ended, whatever happened to them, both sent Ok and handed out
-- all entries, ascending by their names
abbrev pub DirPathsAgree : Type 0
DirPathsAgree = (tree : TreeState) (dir : Dir) (events : List DirEvent) (mosts : List ℕ) (sent sent_at_once : Result (Unit {0}) ErrorCode) (out : List DirectoryEntry) → tree.planned ≡ None
    → dir_sent (dir_at_end tree events (NotStarted dir)) ≡ Some sent
    → ArePolled mosts (directory_streamed (listed tree dir).0) out (producer.Ended sent_at_once)
    → (sent ≡ Ok tt) × (sent_at_once ≡ Ok tt) × (all_entries tree events (NotStarted dir) ≡ entries_in tree dir) × (out ≡ entries_in tree dir)

-- A POLL THAT IS CANCELLED keeps the task and all that it has
abbrev pub CancelsKeepDirs : Type 0
CancelsKeepDirs = (room : Option ℕ) (finish : Bool) (s : ReadDirStream) → (dir_polled room finish s).0.0 ≡ Cancelled → dir_polled room finish s ≡ ((Cancelled, None), s)

-- THE RESULT THAT WAS SENT STAYS: a poll is dropped with nothing, a turn is idle, a close changes nothing
abbrev pub DirsEndOnce : Type 0
DirsEndOnce = (tree : TreeState) (room : Option ℕ) (finish : Bool) (sent : Result (Unit {0}) ErrorCode)
    → (dir_polled room finish (Ended sent) ≡ ((Dropped, None), Ended sent)) × (dir_turned tree (Ended sent) ≡ (turn.Idle, Ended sent)) × (dir_closed (Ended sent) ≡ Ended sent)
