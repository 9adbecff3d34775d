-- The shared standard input: its mode, what is held, what is captured and how often it was delivered.
use Rattle.std.specs.Prelude.{◌≡◌, ℕ, zero, suc, ◌+◌, ◌<◌, ◌≤◌, min, max, Bool, true, false, not, cond, nat_lt, List, [], ◌∷◌, length, take, drop, Option, Some, None}
use Rattle.wasi_base.specs.declared.io_kind.IoKind.{IoKind}
use Rattle.wasi_base.specs.declared.io_kind.IoKind.TheVariants.{BrokenPipe}
use Rattle.wasi_base.specs.Source.{Given, bytes_given}
use Rattle.wasi_base.specs.Source as given
use Rattle.wasi_stdin.specs.declared.mode.Mode.{Mode}
use Rattle.wasi_stdin.specs.declared.mode.Mode.TheVariants.{Idle, Asked, Held, Failed, Closed}
use Rattle.wasi_stdin.specs.declared.answer.Answer.{Answer}
use Rattle.wasi_stdin.specs.declared.answer.Answer.TheVariants as code
use Rattle.wasi_stdin.specs.declared.answer.PolledRead.{PolledRead}
use Rattle.wasi_stdin.specs.declared.answer.PolledRead.TheVariants as polled
use Rattle.wasi_stdin.specs.declared.answer.Outcome.{Outcome}
use Rattle.wasi_stdin.specs.declared.answer.Outcome.TheVariants as outcome
use Rattle.wasi_stdin.specs.declared.answer.Meeting.{Meeting}
use Rattle.wasi_stdin.specs.declared.answer.Meeting.TheVariants as meeting

pub record Shared : Type 0 where
  pub mode : Mode
  pub held : List ℕ
  pub captured : Option ℕ
  pub deliveries : ℕ

-- what a call that asks for bytes meets
pub data Met : Type 0 where
  NothingYet : Met
  Handed : List ℕ → Met
  Told : IoKind → Met
  AtEnd : Met

-- the mode that stands while these bytes are held
abbrev pub mode_holding : List ℕ → Mode
mode_holding [] = Idle
mode_holding (b ∷ bytes) = Held

-- the table: what is met in each mode ..
abbrev pub met_in : Mode → List ℕ → ℕ → Met
met_in Idle held size = NothingYet
met_in (Asked n) held size = NothingYet
met_in Held held size = Handed (take size held)
met_in (Failed kind) held size = Told kind
met_in Closed held size = AtEnd

-- .. and what stands after it: a request grows, bytes and a fault go to one asker alone
abbrev pub after_in : Mode → Shared → ℕ → Shared
after_in Idle s size = record { mode = Asked size; held = s.held; captured = s.captured; deliveries = s.deliveries }
after_in (Asked n) s size = record { mode = Asked (max n size); held = s.held; captured = s.captured; deliveries = s.deliveries }
after_in Held s size = record { mode = mode_holding (drop size s.held); held = drop size s.held; captured = s.captured; deliveries = s.deliveries }
after_in (Failed kind) s size = record { mode = Closed; held = s.held; captured = s.captured; deliveries = s.deliveries }
after_in Closed s size = record { mode = Closed; held = s.held; captured = s.captured; deliveries = s.deliveries }

abbrev pub meeting_of : Shared → ℕ → Met
meeting_of s size = met_in s.mode s.held size

abbrev pub after_meeting : Shared → ℕ → Shared
after_meeting s size = after_in s.mode s size

-- what a read is told
pub data Reading : Type 0 where
  Bytes : List ℕ → Reading
  Ended : Reading
  Fault : IoKind → Reading

-- a broken pipe is the input's end for a read
abbrev pub told_fault : IoKind → Reading
told_fault BrokenPipe = Ended
told_fault kind = Fault kind

abbrev pub reading : Met → Reading
reading NothingYet = Bytes []
reading (Handed bytes) = Bytes bytes
reading (Told kind) = told_fault kind
reading AtEnd = Ended

-- the bytes that it hands out
abbrev pub bytes_read : Reading → List ℕ
bytes_read (Bytes bytes) = bytes
bytes_read Ended = []
bytes_read (Fault kind) = []

-- a read of size 0 gives no bytes and changes nothing
abbrev pub reading_of : Shared → ℕ → Reading
reading_of s zero = Bytes []
reading_of s (suc n) = reading (meeting_of s (suc n))

abbrev pub after_read : Shared → ℕ → Shared
after_read s zero = s
after_read s (suc n) = after_meeting s (suc n)

-- what an answer and the buffer say was read
abbrev pub reading_in : Answer → List ℕ → Reading
reading_in (code.Bytes n) dst = Bytes (take n dst)
reading_in code.Closed dst = Ended
reading_in (code.Failed kind) dst = Fault kind

abbrev pub handed_by : Answer → ℕ
handed_by (code.Bytes n) = n
handed_by code.Closed = 0
handed_by (code.Failed kind) = 0

-- what a skip is told: the number of the bytes that a read would give
pub data Skipped : Type 0 where
  Count : ℕ → Skipped
  Past : Skipped
  SkipFault : IoKind → Skipped

abbrev pub skipped : Reading → Skipped
skipped (Bytes bytes) = Count (length bytes)
skipped Ended = Past
skipped (Fault kind) = SkipFault kind

abbrev pub skipped_in : Answer → Skipped
skipped_in (code.Bytes n) = Count n
skipped_in code.Closed = Past
skipped_in (code.Failed kind) = SkipFault kind

-- a wait is over exactly where its number is below the count of deliveries
abbrev pub is_waiting : Option ℕ → ℕ → Bool
is_waiting None deliveries = false
is_waiting (Some since) deliveries = not (nat_lt since deliveries)

-- what a polled read is told
pub data Polling : Type 0 where
  Polled : List ℕ → Polling
  Pending : Polling
  PollFault : IoKind → Polling

abbrev pub polling : Met → Polling
polling NothingYet = Pending
polling (Handed bytes) = Polled bytes
polling (Told kind) = PollFault kind
polling AtEnd = Polled []

-- the bytes that it hands out
abbrev pub bytes_polled : Polling → List ℕ
bytes_polled (Polled bytes) = bytes
bytes_polled Pending = []
bytes_polled (PollFault kind) = []

-- the wait that it leaves
abbrev pub wait_of : Met → ℕ → Option ℕ
wait_of NothingYet deliveries = Some deliveries
wait_of (Handed bytes) deliveries = None
wait_of (Told kind) deliveries = None
wait_of AtEnd deliveries = None

-- while it waits it changes nothing
abbrev pub poll_of : Shared → Option ℕ → ℕ → Polling
poll_of s wait room = cond (is_waiting wait s.deliveries) Pending (polling (meeting_of s room))

abbrev pub after_poll : Shared → Option ℕ → ℕ → Shared
after_poll s wait room = cond (is_waiting wait s.deliveries) s (after_meeting s room)

abbrev pub wait_after_poll : Shared → Option ℕ → ℕ → Option ℕ
wait_after_poll s wait room = cond (is_waiting wait s.deliveries) wait (wait_of (meeting_of s room) s.deliveries)

abbrev pub polled_in : PolledRead → List ℕ → Polling
polled_in (polled.Bytes n) dst = Polled (take n dst)
polled_in polled.Pending dst = Pending
polled_in (polled.Failed kind) dst = PollFault kind

abbrev pub handed_by_poll : PolledRead → ℕ
handed_by_poll (polled.Bytes n) = n
handed_by_poll polled.Pending = 0
handed_by_poll (polled.Failed kind) = 0

-- the number of the bytes stands for them in what the code meets
abbrev pub counted : Met → Meeting
counted NothingYet = meeting.NothingYet
counted (Handed bytes) = meeting.Handed (length bytes)
counted (Told kind) = meeting.Fault kind
counted AtEnd = meeting.End

abbrev pub answer_to_fault : IoKind → Answer
answer_to_fault BrokenPipe = code.Closed
answer_to_fault kind = code.Failed kind

abbrev pub answer_of : Meeting → Answer
answer_of meeting.NothingYet = code.Bytes 0
answer_of (meeting.Handed n) = code.Bytes n
answer_of (meeting.Fault kind) = answer_to_fault kind
answer_of meeting.End = code.Closed

-- a pollable: ready once something is there; else it asks, where nobody did
abbrev pub ready_in : Mode → Bool
ready_in Idle = false
ready_in (Asked n) = false
ready_in Held = true
ready_in (Failed kind) = true
ready_in Closed = true

abbrev pub asked_by_ready : Mode → Mode
asked_by_ready Idle = Asked 65536
asked_by_ready (Asked n) = Asked n
asked_by_ready Held = Held
asked_by_ready (Failed kind) = Failed kind
asked_by_ready Closed = Closed

abbrev pub is_ready : Shared → Bool
is_ready s = ready_in s.mode

abbrev pub after_ready : Shared → Shared
after_ready s = record { mode = asked_by_ready s.mode; held = s.held; captured = s.captured; deliveries = s.deliveries }

-- with a wait it is true once, after the next delivery; without one it is `ready`, and waits where that is false
abbrev pub block_of : Shared → Option ℕ → Bool
block_of s None = is_ready s
block_of s (Some since) = nat_lt since s.deliveries

abbrev pub after_block : Shared → Option ℕ → Shared
after_block s None = after_ready s
after_block s (Some since) = s

abbrev pub wait_after_block : Shared → Option ℕ → Option ℕ
wait_after_block s None = cond (is_ready s) None (Some s.deliveries)
wait_after_block s (Some since) = cond (nat_lt since s.deliveries) None (Some since)

-- the size that a capture takes, if it takes one
abbrev pub capture_at : Mode → Option ℕ → Option ℕ
capture_at (Asked n) None = Some (max 1 (min n 65536))
capture_at (Asked n) (Some c) = None
capture_at Idle c = None
capture_at Held c = None
capture_at (Failed kind) c = None
capture_at Closed c = None

abbrev pub captured_by : Option ℕ → Shared → Shared
captured_by None s = s
captured_by (Some size) s = record { mode = s.mode; held = s.held; captured = Some size; deliveries = s.deliveries }

abbrev pub capture_of : Shared → Option ℕ
capture_of s = capture_at s.mode s.captured

abbrev pub after_capture : Shared → Shared
after_capture s = captured_by (capture_of s) s

-- a delivery of what a read gave
abbrev pub mode_given : Given → Mode
mode_given (given.Bytes bytes) = Held
mode_given given.End = Closed
mode_given (given.Fault kind) = Failed kind

abbrev pub delivered : Shared → Given → Shared
delivered s g = record { mode = mode_given g; held = bytes_given g; captured = None; deliveries = s.deliveries + 1 }

-- what an outcome and its bytes say was given
abbrev pub outcome_given : Outcome → List ℕ → Given
outcome_given (outcome.Gave n) bytes = given.Bytes bytes
outcome_given outcome.End bytes = given.End
outcome_given (outcome.Fault kind) bytes = given.Fault kind

-- what a read that gave this comes to
abbrev pub outcome_of : Given → Outcome
outcome_of (given.Bytes bytes) = outcome.Gave (length bytes)
outcome_of given.End = outcome.End
outcome_of (given.Fault kind) = outcome.Fault kind

-- bytes are held exactly in Held, and a captured size, from 1 to 65536, stands only in Asked
abbrev pub HoldsIn : Mode → List ℕ → Type 0
HoldsIn Held held = 0 < length held
HoldsIn Idle held = held ≡ []
HoldsIn (Asked n) held = held ≡ []
HoldsIn (Failed kind) held = held ≡ []
HoldsIn Closed held = held ≡ []

abbrev pub CapturedIn : Mode → Option ℕ → Type 0
CapturedIn (Asked n) (Some size) = (1 ≤ size) × (size ≤ 65536)
CapturedIn (Asked n) None = Unit {0}
CapturedIn Idle captured = captured ≡ None
CapturedIn Held captured = captured ≡ None
CapturedIn (Failed kind) captured = captured ≡ None
CapturedIn Closed captured = captured ≡ None

pub record IsSound (s : Shared) : Type 0 where
  pub holds : HoldsIn s.mode s.held
  pub captures : CapturedIn s.mode s.captured

-- what the last delivery gave, as the state after it shows
abbrev pub given_at : Mode → List ℕ → Given
given_at Held held = given.Bytes held
given_at (Failed kind) held = given.Fault kind
given_at Closed held = given.End
given_at Idle held = given.End
given_at (Asked n) held = given.End

abbrev pub given_now : Shared → Given
given_now s = given_at s.mode s.held

-- an outcome with its bytes, for a captured size
abbrev pub FitsOutcome : Outcome → List ℕ → ℕ → Type 0
FitsOutcome (outcome.Gave n) bytes size = (1 ≤ n) × (n ≤ size) × (length bytes ≡ n)
FitsOutcome outcome.End bytes size = bytes ≡ []
FitsOutcome (outcome.Fault kind) bytes size = bytes ≡ []

abbrev pub OnFault : Outcome → Type 0 → Type 0
OnFault (outcome.Gave n) P = Unit {0}
OnFault outcome.End P = Unit {0}
OnFault (outcome.Fault kind) P = P
