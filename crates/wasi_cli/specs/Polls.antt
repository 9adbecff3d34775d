-- One poll of a handle on a shared stream.
use Rattle.std.specs.Prelude.{Bool, true, false, Option, Some, None}
use Rattle.wasi_base.specs.declared.polled.Polled.{Polled}
use Rattle.wasi_base.specs.declared.polled.Polled.TheVariants.{Pending, Ready, Failed}
use Rattle.wasi_cli.specs.declared.handle.StdioHandle.{StdioHandle}
use Rattle.wasi_cli.specs.declared.handle.StdioHandle.TheVariants as handle
use Rattle.wasi_cli.specs.declared.outcome.Outcome.{Outcome}
use Rattle.wasi_cli.specs.declared.outcome.Outcome.TheVariants.{Waits, Gives, Closes, Fails}
use Rattle.wasi_cli.specs.declared.outcome.Start.{Start}
use Rattle.wasi_cli.specs.declared.outcome.Start.TheVariants as start
use Rattle.wasi_cli.specs.declared.owner.Owner.{Owner}
use Rattle.wasi_cli.specs.Turns.{Turn, gets_turn, after_ask, after_free}

-- a closed handle asks for no turn, and any other does
abbrev pub start_by : Bool → Start
start_by true = start.Runs
start_by false = start.Waits

abbrev pub start_of : StdioHandle → Turn → Owner → Start
start_of handle.Closed turn who = start.Ended
start_of handle.Ready turn who = start_by (gets_turn turn.holder who)
start_of handle.Locking turn who = start_by (gets_turn turn.holder who)
start_of handle.Locked turn who = start_by (gets_turn turn.holder who)

abbrev pub begun_handle : Start → StdioHandle → StdioHandle
begun_handle start.Ended h = h
begun_handle start.Waits h = handle.Locking
begun_handle start.Runs h = handle.Locked

abbrev pub begun_turn : Start → Turn → Owner → Turn
begun_turn start.Ended turn who = turn
begun_turn start.Waits turn who = after_ask turn who
begun_turn start.Runs turn who = after_ask turn who

-- where it has the turn, by what the operation came to: the answer, None where the stream ended ..
abbrev pub poll_answer : {A : Type 0} → Outcome A → Polled (Option A)
poll_answer Waits = Pending
poll_answer (Gives a) = Ready (Some a)
poll_answer Closes = Ready None
poll_answer (Fails kind) = Failed kind

-- .. the handle ..
abbrev pub handle_after : {A : Type 0} → Outcome A → StdioHandle
handle_after Waits = handle.Locked
handle_after (Gives a) = handle.Ready
handle_after Closes = handle.Closed
handle_after (Fails kind) = handle.Closed

-- .. and the turn
abbrev pub turn_after : {A : Type 0} → Outcome A → Turn → Owner → Turn
turn_after Waits turn who = turn
turn_after (Gives a) turn who = after_free turn who
turn_after Closes turn who = after_free turn who
turn_after (Fails kind) turn who = after_free turn who

pub record Poll (H A S : Type 0) : Type 0 where
  pub answer : Polled A
  pub handle : H
  pub turn : Turn
  pub stream : S

abbrev pub poll_by : {A S : Type 0} → Start → StdioHandle → Owner → Turn → S → Outcome A → S → Poll StdioHandle (Option A) S
poll_by start.Ended h who turn stream outcome after = record { answer = Ready None; handle = h; turn = turn; stream = stream }
poll_by start.Waits h who turn stream outcome after = record { answer = Pending; handle = handle.Locking; turn = after_ask turn who; stream = stream }
poll_by start.Runs h who turn stream outcome after = record { answer = poll_answer outcome; handle = handle_after outcome; turn = turn_after outcome (after_ask turn who) who; stream = after }

-- one poll of a handle, by what its operation comes to and leaves of the stream
abbrev pub one_poll : {A S : Type 0} → StdioHandle → Owner → Turn → S → Outcome A → S → Poll StdioHandle (Option A) S
one_poll h who turn stream outcome after = poll_by (start_of h turn who) h who turn stream outcome after

abbrev pub or_none : {A : Type 0} → A → Polled (Option A) → Polled A
or_none none Pending = Pending
or_none none (Ready (Some a)) = Ready a
or_none none (Ready None) = Ready none
or_none none (Failed kind) = Failed kind

abbrev pub with_none : {A S : Type 0} → A → Poll StdioHandle (Option A) S → Poll StdioHandle A S
with_none none poll = record { answer = or_none none poll.answer; handle = poll.handle; turn = poll.turn; stream = poll.stream }

-- what a poll that finds no memory leaves: the operation is not made, and the turn is kept
pub record Standing (H S : Type 0) : Type 0 where
  pub handle : H
  pub turn : Turn
  pub stream : S

abbrev pub stopped_by : {S : Type 0} → Start → StdioHandle → Owner → Turn → S → Standing StdioHandle S
stopped_by start.Ended h who turn stream = record { handle = h; turn = turn; stream = stream }
stopped_by start.Waits h who turn stream = record { handle = h; turn = turn; stream = stream }
stopped_by start.Runs h who turn stream = record { handle = handle.Locked; turn = after_ask turn who; stream = stream }

abbrev pub stopped : {S : Type 0} → StdioHandle → Owner → Turn → S → Standing StdioHandle S
stopped h who turn stream = stopped_by (start_of h turn who) h who turn stream
