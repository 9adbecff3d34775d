-- A stream of bytes into a file, poll by poll and turn by turn.
use Rattle.std.specs.Prelude.{ℕ, ◌+◌, ◌^◌, List, length, take, Option, Some, None, Result, Ok, Err, Bool, true, false, cond, leb, option_map}
use Rattle.wasi_fs.specs.Stores.{Told, write_of, taken, after_write}
use Rattle.wasi_fs.specs.declared.descriptor.File.{File}
use Rattle.wasi_fs_nodes.specs.Writes.{Write, Fault, Refusal, Nothing, Bytes}
use Rattle.wasi_fs_nodes.specs.declared.at.At.{At}
use Rattle.wasi_fs_nodes.specs.declared.at.At.TheVariants as at
use Rattle.wasi_fs_types.specs.declared.error_code.ErrorCode.{ErrorCode}
use Rattle.wasi_fs_types.specs.declared.error_code.ErrorCode.TheVariants as code
use Rattle.wasi_fs_streams.specs.Tasks.{task_turned, work_turned}
use Rattle.wasi_fs_streams.specs.declared.task.Task.{Task}
use Rattle.wasi_fs_streams.specs.declared.task.Task.TheVariants as task
use Rattle.wasi_fs_streams.specs.declared.task.TaskTurn.{TaskTurn}
use Rattle.wasi_fs_streams.specs.declared.task.TaskTurn.TheVariants as turn
use Rattle.wasi_fs_streams.specs.declared.write.WriteStreamConsumer.{WriteStreamConsumer}
use Rattle.wasi_fs_streams.specs.declared.write.WriteStreamConsumer.TheVariants.{Open, Ended}
use Rattle.wasi_producers.specs.Outputs.{consumed}
use Rattle.wasi_producers.specs.declared.results.Consumed.{Consumed}
use Rattle.wasi_producers.specs.declared.results.StreamResult.TheVariants.{Completed, Dropped, Cancelled, Pending}

-- where the next write goes: an offset moves on, and the end of the file is always its end; none past the greatest number
abbrev pub unless_past : Bool → ℕ → Option At
unless_past true offset = None
unless_past false offset = Some (at.Offset offset)

abbrev pub next_place : At → ℕ → Option At
next_place at.End count = Some at.End
next_place (at.Offset offset) count = unless_past (leb (2 ^ 64) (offset + count)) (offset + count)

abbrev pub moved_to : ℕ → File → Option At → Consumed × WriteStreamConsumer
moved_to count file None = (consumed Dropped count, Ended (Err code.Overflow))
moved_to count file (Some location) = (consumed Completed count, Open file location None)

-- what comes of a write, by what it answered
abbrev pub written : File → At → Result ℕ ErrorCode → Consumed × WriteStreamConsumer
written file location (Ok count) = moved_to count file (next_place location count)
written file location (Err refusal) = (consumed Dropped 0, Ended (Err refusal))

-- the write of a piece at a stream's place, and what it answers
abbrev pub write_here : Told → (ℕ → List ℕ) → File → At → List ℕ → Write
write_here told contents file location piece = write_of told (contents file.node) location piece

abbrev pub taken_here : Told → (ℕ → List ℕ) → File → At → List ℕ → Result ℕ ErrorCode
taken_here told contents file location piece = taken (write_here told contents file location piece) (length piece)

abbrev pub Writing : Type 0
Writing = Task (List ℕ) (Result ℕ ErrorCode)

-- a task that was not started stands with its piece, unless the poll is to finish
abbrev pub write_waits : Bool → File → At → List ℕ → Consumed × WriteStreamConsumer
write_waits true file location piece = (consumed Cancelled 0, Open file location None)
write_waits false file location piece = (consumed Pending 0, Open file location (Some (task.NotStarted piece)))

-- a poll on the task path: where no task stands it makes one, of the piece's first 8192 bytes, and of one that is done it
-- takes what was written, whatever piece it shows
abbrev pub consumed_by_task : List ℕ → Bool → File → At → Option Writing → Consumed × WriteStreamConsumer
consumed_by_task piece finish file location None = write_waits finish file location (take 8192 piece)
consumed_by_task piece finish file location (Some (task.NotStarted kept)) = write_waits finish file location kept
consumed_by_task piece finish file location (Some (task.Running kept)) = (consumed Pending 0, Open file location (Some (task.Running kept)))
consumed_by_task piece finish file location (Some (task.Done outcome)) = written file location outcome

-- A POLL, which is to finish or not: its answer, and the stream after it. On the blocking path it writes the whole piece
abbrev pub write_polled : Told → (ℕ → List ℕ) → List ℕ → Bool → WriteStreamConsumer → Consumed × WriteStreamConsumer
write_polled told contents piece finish (Open file location task) =
    cond file.blocking (written file location (taken_here told contents file location piece)) (consumed_by_task piece finish file location task)
write_polled told contents piece finish (Ended sent) = (consumed Dropped 0, Ended sent)

-- A TURN: its answer, and the stream after it
abbrev pub with_write_task : File → At → TaskTurn × Option Writing → TaskTurn × WriteStreamConsumer
with_write_task file location turned = (turned.0, Open file location turned.1)

abbrev pub write_turned : Told → (ℕ → List ℕ) → WriteStreamConsumer → TaskTurn × WriteStreamConsumer
write_turned told contents (Open file location task) = with_write_task file location (task_turned (taken_here told contents file location) task)
write_turned told contents (Ended sent) = (turn.Idle, Ended sent)

-- THE TASK THAT STANDS, done: two turns, of which the first may do it all
abbrev pub write_finished : Told → (ℕ → List ℕ) → WriteStreamConsumer → WriteStreamConsumer
write_finished told contents stream = (write_turned told contents (write_turned told contents stream).1).1

-- the write that a poll makes, if it makes one ..
abbrev pub write_made : Told → (ℕ → List ℕ) → List ℕ → WriteStreamConsumer → Option Write
write_made told contents piece (Open file location task) = cond file.blocking (Some (write_here told contents file location piece)) None
write_made told contents piece (Ended sent) = None

-- .. and that of a turn
abbrev pub write_made_in_turn : Told → (ℕ → List ℕ) → WriteStreamConsumer → Option Write
write_made_in_turn told contents (Open file location task) = option_map (write_here told contents file location) (work_turned task)
write_made_in_turn told contents (Ended sent) = None

-- .. and the one that is left of the task that stands
abbrev pub work_left : Option Writing → Option (List ℕ)
work_left None = None
work_left (Some (task.NotStarted piece)) = Some piece
work_left (Some (task.Running piece)) = Some piece
work_left (Some (task.Done outcome)) = None

abbrev pub write_left : Told → (ℕ → List ℕ) → WriteStreamConsumer → Option Write
write_left told contents (Open file location task) = option_map (write_here told contents file location) (work_left task)
write_left told contents (Ended sent) = None

-- what is left of the store, by the write that is made
abbrev pub after_write_made : {S : Type 0} → (S → S) → (S → ℕ → List ℕ → S) → S → WriteStreamConsumer → Option Write → S
after_write_made met with_contents store stream None = store
after_write_made met with_contents store (Open file location task) (Some write) = after_write met (with_contents store file.node) store write
after_write_made met with_contents store (Ended sent) (Some write) = store

-- a fault comes only where something holds
abbrev pub OnFault : Write → Type 0 → Type 0
OnFault (Fault refusal) holds = holds
OnFault (Refusal refusal) holds = Unit {0}
OnFault Nothing holds = Unit {0}
OnFault (Bytes bytes) holds = Unit {0}

abbrev pub OnFaultMade : Option Write → Type 0 → Type 0
OnFaultMade None holds = Unit {0}
OnFaultMade (Some write) holds = OnFault write holds

-- an open stream is on a file of the store
abbrev pub WritesFile : (ℕ → Type 0) → WriteStreamConsumer → Type 0
WritesFile is_file (Open file location task) = is_file file.node
WritesFile is_file (Ended sent) = Unit {0}

-- a stream that is closed before it ended sends Ok, and its task does nothing more
abbrev pub write_closed : WriteStreamConsumer → WriteStreamConsumer
write_closed (Open file location task) = Ended (Ok tt)
write_closed (Ended sent) = Ended sent

-- the result that was sent, if one was
abbrev pub write_sent : WriteStreamConsumer → Option (Result (Unit {0}) ErrorCode)
write_sent (Open file location task) = None
write_sent (Ended sent) = Some sent
