-- A file's bytes as a stream, poll by poll and turn by turn.
use Rattle.std.specs.Prelude.{ℕ, zero, suc, ◌+◌, ◌^◌, min, List, [], ◌∷◌, length, Option, Some, None, Result, Ok, Err, Bool, true, false, cond, leb, option_map}
use Rattle.wasi_fs.specs.Stores.{Told, given, after_read}
use Rattle.wasi_fs.specs.declared.descriptor.File.{File}
use Rattle.wasi_fs_types.specs.declared.error_code.ErrorCode.{ErrorCode}
use Rattle.wasi_fs_types.specs.declared.error_code.ErrorCode.TheVariants as code
use Rattle.wasi_fs_streams.specs.Tasks.{task_turned, work_turned}
use Rattle.wasi_fs_streams.specs.declared.read.ReadStreamProducer.{ReadStreamProducer}
use Rattle.wasi_fs_streams.specs.declared.read.ReadStreamProducer.TheVariants.{Open, Ended}
use Rattle.wasi_fs_streams.specs.declared.task.Task.{Task}
use Rattle.wasi_fs_streams.specs.declared.task.Task.TheVariants as task
use Rattle.wasi_fs_streams.specs.declared.task.TaskTurn.{TaskTurn}
use Rattle.wasi_fs_streams.specs.declared.task.TaskTurn.TheVariants as turn
use Rattle.wasi_producers.specs.Inputs.{produced}
use Rattle.wasi_producers.specs.declared.results.Produced.{Produced}
use Rattle.wasi_producers.specs.declared.results.StreamResult.TheVariants.{Completed, Dropped, Cancelled, Pending}

-- how many bytes a poll reads at most
abbrev pub read_size : Option ℕ → ℕ
read_size None = 8192
read_size (Some room) = min room 65536

-- bytes go out, and the place moves on by as many, unless it would pass the greatest number
abbrev pub moved : Bool → File → ℕ → List ℕ → Produced × ReadStreamProducer
moved true file offset bytes = (produced Dropped bytes, Ended (Err code.Overflow))
moved false file offset bytes = (produced Completed bytes, Open file (offset + length bytes) None)

-- what a read gave goes out: no bytes are the file's end
abbrev pub handed_out : File → ℕ → Result (List ℕ) ErrorCode → Produced × ReadStreamProducer
handed_out file offset (Ok []) = (produced Dropped [], Ended (Ok tt))
handed_out file offset (Ok (b ∷ bytes)) = moved (leb (2 ^ 64) (offset + length (b ∷ bytes))) file offset (b ∷ bytes)
handed_out file offset (Err refusal) = (produced Dropped [], Ended (Err refusal))

-- the read that a poll makes on the blocking path, by what it gives; room for nothing makes none
abbrev pub read_by : Told → List ℕ → ℕ → ℕ → Option (Result (List ℕ) ErrorCode)
read_by told bytes offset zero = None
read_by told bytes offset (suc n) = Some (given told bytes offset (suc n))

-- a poll on the task path makes none
abbrev pub read_made : Told → (ℕ → List ℕ) → Option ℕ → ReadStreamProducer → Option (Result (List ℕ) ErrorCode)
read_made told contents room (Open file offset task) = cond file.blocking (read_by told (contents file.node) offset (read_size room)) None
read_made told contents room (Ended sent) = None

abbrev pub Reading : Type 0
Reading = Task (Unit {0}) (Result (List ℕ) ErrorCode)

-- a poll on the blocking path, by the read that it makes
abbrev pub polled_at_once : Option (Result (List ℕ) ErrorCode) → File → ℕ → Option Reading → Produced × ReadStreamProducer
polled_at_once None file offset task = (produced Completed [], Open file offset task)
polled_at_once (Some outcome) file offset task = handed_out file offset outcome

-- a task that was not started stands, unless the poll is to finish
abbrev pub read_waits : Bool → File → ℕ → Produced × ReadStreamProducer
read_waits true file offset = (produced Cancelled [], Open file offset None)
read_waits false file offset = (produced Pending [], Open file offset (Some (task.NotStarted tt)))

-- a poll on the task path: where no task stands it makes one, and of one that is done it hands out what came of it
abbrev pub polled_by_task : Bool → File → ℕ → Option Reading → Produced × ReadStreamProducer
polled_by_task finish file offset None = read_waits finish file offset
polled_by_task finish file offset (Some (task.NotStarted work)) = read_waits finish file offset
polled_by_task finish file offset (Some (task.Running work)) = (produced Pending [], Open file offset (Some (task.Running work)))
polled_by_task finish file offset (Some (task.Done outcome)) = handed_out file offset outcome

-- A POLL, by the read that it makes and whether it is to finish: its answer, and the stream after it
abbrev pub read_polled : Option (Result (List ℕ) ErrorCode) → Bool → ReadStreamProducer → Produced × ReadStreamProducer
read_polled read finish (Open file offset task) = cond file.blocking (polled_at_once read file offset task) (polled_by_task finish file offset task)
read_polled read finish (Ended sent) = (produced Dropped [], Ended sent)

-- A TURN: its answer, and the stream after it. Its task reads 8192 bytes, whatever the room of a poll
abbrev pub task_read : Told → (ℕ → List ℕ) → File → ℕ → Unit {0} → Result (List ℕ) ErrorCode
task_read told contents file offset work = given told (contents file.node) offset 8192

abbrev pub with_read_task : File → ℕ → TaskTurn × Option Reading → TaskTurn × ReadStreamProducer
with_read_task file offset turned = (turned.0, Open file offset turned.1)

abbrev pub read_turned : Told → (ℕ → List ℕ) → ReadStreamProducer → TaskTurn × ReadStreamProducer
read_turned told contents (Open file offset task) = with_read_task file offset (task_turned (task_read told contents file offset) task)
read_turned told contents (Ended sent) = (turn.Idle, Ended sent)

-- the read that a turn makes
abbrev pub read_made_in_turn : Told → (ℕ → List ℕ) → ReadStreamProducer → Option (Result (List ℕ) ErrorCode)
read_made_in_turn told contents (Open file offset task) = option_map (task_read told contents file offset) (work_turned task)
read_made_in_turn told contents (Ended sent) = None

-- what a poll or a turn leaves of the store, by the read that it makes
abbrev pub after_read_made : {S : Type 0} → (S → S) → S → Option (Result (List ℕ) ErrorCode) → S
after_read_made met store None = store
after_read_made met store (Some outcome) = after_read met store outcome

-- a code comes only where something holds
abbrev pub OnCode : Option (Result (List ℕ) ErrorCode) → Type 0 → Type 0
OnCode None holds = Unit {0}
OnCode (Some (Ok bytes)) holds = Unit {0}
OnCode (Some (Err refusal)) holds = holds

-- an open stream is on a file of the store
abbrev pub ReadsFile : (ℕ → Type 0) → ReadStreamProducer → Type 0
ReadsFile is_file (Open file offset task) = is_file file.node
ReadsFile is_file (Ended sent) = Unit {0}

-- a stream that is closed before it ended sends Ok, and its task does nothing more
abbrev pub read_closed : ReadStreamProducer → ReadStreamProducer
read_closed (Open file offset task) = Ended (Ok tt)
read_closed (Ended sent) = Ended sent

-- the result that was sent, if one was
abbrev pub read_sent : ReadStreamProducer → Option (Result (Unit {0}) ErrorCode)
read_sent (Open file offset task) = None
read_sent (Ended sent) = Some sent
