-- What holds of every run of a read stream, on either path.
use Rattle.std.specs.Prelude.{◌≡◌, ◌≢◌, ◌≤◌, ◌-◌, ℕ, List, [], ◌∷◌, ◌++◌, drop, Option, None, Some, Result, Ok, Err, Bool, true, false}
use Rattle.wasi_fs.specs.Stores.{Told}
use Rattle.wasi_fs.specs.declared.descriptor.File.{File}
use Rattle.wasi_fs_types.specs.declared.error_code.ErrorCode.{ErrorCode}
use Rattle.wasi_fs_types.specs.declared.error_code.ErrorCode.TheVariants as code
use Rattle.wasi_fs_streams.specs.Reads.{Reading, read_made, read_polled, read_turned, read_closed, read_sent}
use Rattle.wasi_fs_streams.specs.declared.read.ReadStreamProducer.{ReadStreamProducer}
use Rattle.wasi_fs_streams.specs.declared.read.ReadStreamProducer.TheVariants.{Open, Ended}
use Rattle.wasi_fs_streams.specs.declared.task.TaskTurn.TheVariants as turn
use Rattle.wasi_producers.specs.Inputs.{produced}
use Rattle.wasi_producers.specs.declared.results.Produced.{Produced}
use Rattle.wasi_producers.specs.declared.results.StreamResult.TheVariants.{Cancelled, Dropped}

-- a poll over what a store tells
abbrev pub polled_over : Told → (ℕ → List ℕ) → Option ℕ → Bool → ReadStreamProducer → Produced × ReadStreamProducer
polled_over told contents room finish s = read_polled (read_made told contents room s) finish s

-- WHAT HAPPENS TO A READ STREAM: a poll with the guest's room, that is to finish or not, or a turn of its task
pub data ReadEvent : Type 0 where
  Poll : Option ℕ → Bool → ReadEvent
  Turn : ReadEvent

abbrev pub after_event : Told → (ℕ → List ℕ) → ReadEvent → ReadStreamProducer → ReadStreamProducer
after_event told contents (Poll room finish) s = (polled_over told contents room finish s).1
after_event told contents Turn s = (read_turned told contents s).1

abbrev pub bytes_out : Told → (ℕ → List ℕ) → ReadEvent → ReadStreamProducer → List ℕ
bytes_out told contents (Poll room finish) s = (polled_over told contents room finish s).0.bytes
bytes_out told contents Turn s = []

-- the stream after these, and all the bytes that it hands out, over a store that nobody changes
abbrev pub read_at_end : Told → (ℕ → List ℕ) → List ReadEvent → ReadStreamProducer → ReadStreamProducer
read_at_end told contents [] s = s
read_at_end told contents (event ∷ events) s = read_at_end told contents events (after_event told contents event s)

abbrev pub all_read : Told → (ℕ → List ℕ) → List ReadEvent → ReadStreamProducer → List ℕ
all_read told contents [] s = []
all_read told contents (event ∷ events) s = bytes_out told contents event s ++ all_read told contents events (after_event told contents event s)

-- the bytes of a file from an offset on
abbrev pub bytes_from : Told → (ℕ → List ℕ) → File → ℕ → List ℕ
bytes_from told contents file offset = drop (offset - told.least) (contents file.node)

-- what was handed out and what stands from the present place on are the file from its first place on; where Ok was sent,
-- all of it was handed out; and no error is sent but that of an offset past the greatest number
abbrev pub ShowsFile : Told → (ℕ → List ℕ) → File → ℕ → ReadStreamProducer → List ℕ → Type 0
ShowsFile told contents file offset (Open now place task) out = (now ≡ file) × (out ++ bytes_from told contents file place ≡ bytes_from told contents file offset)
ShowsFile told contents file offset (Ended (Ok done)) out = out ≡ bytes_from told contents file offset
ShowsFile told contents file offset (Ended (Err refusal)) out = refusal ≡ code.Overflow

abbrev pub StreamsShowFiles : Type 0
StreamsShowFiles = (told : Told) (contents : ℕ → List ℕ) (file : File) (events : List ReadEvent) (offset : ℕ) → told.planned ≡ None → told.least ≤ offset
    → ShowsFile told contents file offset (read_at_end told contents events (Open file offset None)) (all_read told contents events (Open file offset None))

-- THE TASK PATH EQUALS THE BLOCKING PATH: whatever happened to two streams of one file from one place on, one on each path,
-- where both ended and sent no overflow, both sent Ok and handed out the same bytes, which are the file's from that place on
abbrev pub EndedWell : Told → (ℕ → List ℕ) → List ReadEvent → ReadStreamProducer → Type 0
EndedWell told contents events s = (sent : Result (Unit {0}) ErrorCode) × (read_sent (read_at_end told contents events s) ≡ Some sent) × (sent ≢ Err code.Overflow)

pub record SameReads (told : Told) (contents : ℕ → List ℕ) (by_task at_once : File) (offset : ℕ) (events polls : List ReadEvent) : Type 0 where
  pub sent_by_task : read_sent (read_at_end told contents events (Open by_task offset None)) ≡ Some (Ok tt)
  pub sent_at_once : read_sent (read_at_end told contents polls (Open at_once offset None)) ≡ Some (Ok tt)
  pub same : all_read told contents events (Open by_task offset None) ≡ all_read told contents polls (Open at_once offset None)
  pub whole : all_read told contents events (Open by_task offset None) ≡ bytes_from told contents by_task offset

abbrev pub ReadPathsAgree : Type 0
ReadPathsAgree = (told : Told) (contents : ℕ → List ℕ) (by_task at_once : File) (offset : ℕ) (events polls : List ReadEvent)
    → by_task.blocking ≡ false → at_once.blocking ≡ true → by_task.node ≡ at_once.node → told.planned ≡ None → told.least ≤ offset
    → EndedWell told contents events (Open by_task offset None) → EndedWell told contents polls (Open at_once offset None)
    → SameReads told contents by_task at_once offset events polls

-- A POLL THAT IS CANCELLED leaves the place as it was, hands out nothing, and no task stands
abbrev pub CancelsLeaveReads : Type 0
CancelsLeaveReads = (told : Told) (contents : ℕ → List ℕ) (file : File) (offset : ℕ) (task : Option Reading) (room : Option ℕ) (finish : Bool)
    → (polled_over told contents room finish (Open file offset task)).0.result ≡ Cancelled
    → polled_over told contents room finish (Open file offset task) ≡ (produced Cancelled [], Open file offset None)

-- THE RESULT THAT WAS SENT STAYS, whatever the store: a poll is dropped with nothing, a turn is idle, a close changes nothing
abbrev pub ReadsEndOnce : Type 0
ReadsEndOnce = (told : Told) (contents : ℕ → List ℕ) (room : Option ℕ) (finish : Bool) (sent : Result (Unit {0}) ErrorCode)
    → (polled_over told contents room finish (Ended sent) ≡ (produced Dropped [], Ended sent)) × (read_turned told contents (Ended sent) ≡ (turn.Idle, Ended sent)) × (read_closed (Ended sent) ≡ Ended sent)
