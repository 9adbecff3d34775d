-- What holds of every run of a write stream, on either path, over a file that nobody else changes.
use Rattle.std.specs.Prelude.{◌≡◌, ◌≤◌, ◌+◌, ℕ, List, [], ◌∷◌, length, drop, Option, None, Some, Result, Ok, Err, Bool, true, false}
use Rattle.wasi_fs.specs.Stores.{Told, bytes_after}
use Rattle.wasi_fs.specs.declared.descriptor.File.{File}
use Rattle.wasi_fs_nodes.specs.Writes.{Limits, Write, place_in, write_from}
use Rattle.wasi_fs_nodes.specs.declared.at.At.{At}
use Rattle.wasi_fs_nodes.specs.declared.at.At.TheVariants as at
use Rattle.wasi_fs_types.specs.declared.error_code.ErrorCode.{ErrorCode}
use Rattle.wasi_fs_streams.specs.WriteStreams.{Writing, write_polled, write_turned, write_made, write_made_in_turn, after_write_made, write_closed, write_sent}
use Rattle.wasi_fs_streams.specs.declared.task.TaskTurn.TheVariants as turn
use Rattle.wasi_fs_streams.specs.declared.write.WriteStreamConsumer.{WriteStreamConsumer}
use Rattle.wasi_fs_streams.specs.declared.write.WriteStreamConsumer.TheVariants.{Open, Ended}
use Rattle.wasi_producers.specs.Outputs.{consumed}
use Rattle.wasi_producers.specs.declared.results.StreamResult.TheVariants.{Cancelled, Dropped}

-- what a store with no fault planned tells
abbrev pub no_fault_told : ℕ → Option Limits → Told
no_fault_told least limits = record { least = least; limits = limits; planned = None; faults = 0 }

-- A RUN: the file's bytes, the data that was not yet taken, which is what the guest shows, and the stream
pub record WriteRun : Type 0 where
  pub bytes : List ℕ
  pub rest : List ℕ
  pub stream : WriteStreamConsumer

-- WHAT HAPPENS IN IT: a poll, that is to finish or not, or a turn of the task. The store's limits may be others each time,
-- since other files may grow
pub data WriteEvent : Type 0 where
  Poll : Option Limits → Bool → WriteEvent
  Turn : Option Limits → WriteEvent

-- the file's bytes after the write that is made
abbrev pub bytes_left : List ℕ → WriteStreamConsumer → Option Write → List ℕ
bytes_left bytes stream write = after_write_made (λ same. same) (λ was file now. now) bytes stream write

abbrev pub after_write_event : ℕ → WriteEvent → WriteRun → WriteRun
after_write_event least (Poll limits finish) run =
    let told = no_fault_told least limits in
    let polled = write_polled told (λ file. run.bytes) run.rest finish run.stream in
    record {
      bytes = bytes_left run.bytes run.stream (write_made told (λ file. run.bytes) run.rest run.stream);
      rest = drop polled.0.taken run.rest;
      stream = polled.1;
    }
after_write_event least (Turn limits) run =
    let told = no_fault_told least limits in
    record {
      bytes = bytes_left run.bytes run.stream (write_made_in_turn told (λ file. run.bytes) run.stream);
      rest = run.rest;
      stream = (write_turned told (λ file. run.bytes) run.stream).1;
    }

abbrev pub write_run : ℕ → List WriteEvent → WriteRun → WriteRun
write_run least [] run = run
write_run least (event ∷ events) run = write_run least events (after_write_event least event run)

abbrev pub new_run : List ℕ → List ℕ → File → At → WriteRun
new_run bytes shown file place = record { bytes = bytes; rest = shown; stream = Open file place None }

-- the file that one write of these bytes leaves, where no fault and no limit is met
abbrev pub one_write : ℕ → List ℕ → At → List ℕ → List ℕ
one_write least bytes place more = bytes_after bytes (write_from None bytes (place_in least (length bytes) place) more)

-- a place that is not below the least offset
abbrev pub IsNotBelow : ℕ → At → Type 0
IsNotBelow least at.End = Unit {0}
IsNotBelow least (at.Offset offset) = least ≤ offset

-- ALL WAS TAKEN AND NO TASK STANDS: the stream is open, so no fault, no refusal and no overflow ended it
abbrev pub TookAll : WriteRun → Type 0
TookAll run = (file : File) × (place : At) × (run.rest ≡ []) × (run.stream ≡ Open file place None)

-- then the file is what one write of the data at the first place leaves, and a close sends Ok
abbrev pub StreamsWriteAll : Type 0
StreamsWriteAll = (least : ℕ) (bytes shown : List ℕ) (file : File) (place : At) (events : List WriteEvent) → IsNotBelow least place
    → (let end = write_run least events (new_run bytes shown file place) in TookAll end → (end.bytes ≡ one_write least bytes place shown) × (write_sent (write_closed end.stream) ≡ Some (Ok tt)))

-- THE TASK PATH EQUALS THE BLOCKING PATH: two streams over equal files, one on each path, whatever happened to them, left
-- equal files once each took all of the same data
abbrev pub WritePathsAgree : Type 0
WritePathsAgree = (least : ℕ) (bytes shown : List ℕ) (by_task at_once : File) (place : At) (events polls : List WriteEvent)
    → by_task.blocking ≡ false → at_once.blocking ≡ true → IsNotBelow least place
    → TookAll (write_run least events (new_run bytes shown by_task place)) → TookAll (write_run least polls (new_run bytes shown at_once place))
    → (write_run least events (new_run bytes shown by_task place)).bytes ≡ (write_run least polls (new_run bytes shown at_once place)).bytes

-- A POLL THAT IS CANCELLED leaves the place as it was and takes nothing, and no task stands
abbrev pub CancelsLeaveWrites : Type 0
CancelsLeaveWrites = (told : Told) (contents : ℕ → List ℕ) (file : File) (place : At) (task : Option Writing) (piece : List ℕ) (finish : Bool)
    → (write_polled told contents piece finish (Open file place task)).0.result ≡ Cancelled
    → (write_polled told contents piece finish (Open file place task) ≡ (consumed Cancelled 0, Open file place None)) × (write_made told contents piece (Open file place task) ≡ None)

-- THE RESULT THAT WAS SENT STAYS, whatever the store, and nothing is written after it
abbrev pub WritesEndOnce : Type 0
WritesEndOnce = (told : Told) (contents : ℕ → List ℕ) (piece : List ℕ) (finish : Bool) (sent : Result (Unit {0}) ErrorCode)
    → (write_polled told contents piece finish (Ended sent) ≡ (consumed Dropped 0, Ended sent)) × (write_made told contents piece (Ended sent) ≡ None)
    × (write_turned told contents (Ended sent) ≡ (turn.Idle, Ended sent)) × (write_made_in_turn told contents (Ended sent) ≡ None) × (write_closed (Ended sent) ≡ Ended sent)
