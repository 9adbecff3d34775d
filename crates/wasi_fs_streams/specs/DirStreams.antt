-- A directory's entries as a stream of a task, poll by poll and turn by turn.
use Rattle.std.specs.Prelude.{ℕ, zero, suc, List, [], ◌∷◌, Option, Some, None, Result, Ok, Err, Bool, true, false}
use Rattle.wasi_fs.specs.Listing.{Ascend, listed}
use Rattle.wasi_fs.specs.Trees.{TreeState, IsDirOf}
use Rattle.wasi_fs.specs.declared.entries.DirectoryEntry.{DirectoryEntry}
use Rattle.wasi_fs_types.specs.declared.error_code.ErrorCode.{ErrorCode}
use Rattle.wasi_fs_streams.specs.declared.dir_stream.ReadDirStream.{ReadDirStream}
use Rattle.wasi_fs_streams.specs.declared.dir_stream.ReadDirStream.TheVariants.{NotStarted, Running, Done, Ended}
use Rattle.wasi_fs_streams.specs.declared.task.TaskTurn.{TaskTurn}
use Rattle.wasi_fs_streams.specs.declared.task.TaskTurn.TheVariants as turn
use Rattle.wasi_producers.specs.declared.results.StreamResult.{StreamResult}
use Rattle.wasi_producers.specs.declared.results.StreamResult.TheVariants.{Completed, Dropped, Cancelled, Pending}

-- the first turn lists the names; a fault there is how the task ends
abbrev pub begun : Result (List DirectoryEntry) ErrorCode → TaskTurn × ReadDirStream
begun (Ok entries) = (turn.Started, Running entries None)
begun (Err refusal) = (turn.Done, Done (Err refusal))

-- a later one gives the next entry, once the one before was taken, and where none is left it is the task's end
abbrev pub went_on : List DirectoryEntry → Option DirectoryEntry → TaskTurn × ReadDirStream
went_on left (Some entry) = (turn.Idle, Running left (Some entry))
went_on [] None = (turn.Done, Done (Ok tt))
went_on (entry ∷ left) None = (turn.Gave, Running left (Some entry))

-- A TURN: its answer and the stream after it, and what it leaves of the tree
abbrev pub dir_turned : TreeState → ReadDirStream → TaskTurn × ReadDirStream
dir_turned tree (NotStarted dir) = begun (listed tree dir).0
dir_turned tree (Running left given) = went_on left given
dir_turned tree (Done outcome) = (turn.Idle, Done outcome)
dir_turned tree (Ended sent) = (turn.Idle, Ended sent)

abbrev pub tree_turned : TreeState → ReadDirStream → TreeState
tree_turned tree (NotStarted dir) = (listed tree dir).1
tree_turned tree (Running left given) = tree
tree_turned tree (Done outcome) = tree
tree_turned tree (Ended sent) = tree

-- a poll that has to wait, which keeps the task also where it is to finish
abbrev pub waits : Bool → ReadDirStream → (StreamResult × Option DirectoryEntry) × ReadDirStream
waits true stream = ((Cancelled, None), stream)
waits false stream = ((Pending, None), stream)

-- a poll with room takes the entry that was given, or the task's end
abbrev pub polled_with_room : Bool → ReadDirStream → (StreamResult × Option DirectoryEntry) × ReadDirStream
polled_with_room finish (NotStarted dir) = waits finish (NotStarted dir)
polled_with_room finish (Running left None) = waits finish (Running left None)
polled_with_room finish (Running left (Some entry)) = ((Completed, Some entry), Running left None)
polled_with_room finish (Done outcome) = ((Dropped, None), Ended outcome)
polled_with_room finish (Ended sent) = ((Dropped, None), Ended sent)

-- one with room for nothing is done at once, unless the stream ended
abbrev pub polled_no_room : ReadDirStream → (StreamResult × Option DirectoryEntry) × ReadDirStream
polled_no_room (NotStarted dir) = ((Completed, None), NotStarted dir)
polled_no_room (Running left given) = ((Completed, None), Running left given)
polled_no_room (Done outcome) = ((Completed, None), Done outcome)
polled_no_room (Ended sent) = ((Dropped, None), Ended sent)

-- A POLL: its answer, with the entry that it hands out, and the stream after it
abbrev pub dir_polled : Option ℕ → Bool → ReadDirStream → (StreamResult × Option DirectoryEntry) × ReadDirStream
dir_polled None finish stream = polled_with_room finish stream
dir_polled (Some zero) finish stream = polled_no_room stream
dir_polled (Some (suc n)) finish stream = polled_with_room finish stream

-- a directory that is not listed yet is one of the tree
abbrev pub ListsDir : TreeState → ReadDirStream → Type 0
ListsDir tree (NotStarted dir) = IsDirOf tree dir
ListsDir tree (Running left given) = Unit {0}
ListsDir tree (Done outcome) = Unit {0}
ListsDir tree (Ended sent) = Unit {0}

-- what a first turn lists is in order
abbrev pub LeftAscend : ReadDirStream → Type 0
LeftAscend (NotStarted dir) = Unit {0}
LeftAscend (Running left given) = Ascend left
LeftAscend (Done outcome) = Unit {0}
LeftAscend (Ended sent) = Unit {0}

abbrev pub ListsInOrder : ReadDirStream → ReadDirStream → Type 0
ListsInOrder (NotStarted dir) after = LeftAscend after
ListsInOrder (Running left given) after = Unit {0}
ListsInOrder (Done outcome) after = Unit {0}
ListsInOrder (Ended sent) after = Unit {0}

-- a stream that is closed before it ended sends Ok, and its task does nothing more
abbrev pub dir_closed : ReadDirStream → ReadDirStream
dir_closed (NotStarted dir) = Ended (Ok tt)
dir_closed (Running left given) = Ended (Ok tt)
dir_closed (Done outcome) = Ended (Ok tt)
dir_closed (Ended sent) = Ended sent

-- the result that was sent, if one was
abbrev pub dir_sent : ReadDirStream → Option (Result (Unit {0}) ErrorCode)
dir_sent (NotStarted dir) = None
dir_sent (Running left given) = None
dir_sent (Done outcome) = None
dir_sent (Ended sent) = Some sent
