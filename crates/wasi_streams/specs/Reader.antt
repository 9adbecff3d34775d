-- An input whose reader task reads ahead: one item in a channel, and the rest of an item kept.
use Rattle.std.specs.Prelude.{◌≡◌, ℕ, Bool, true, false, ◌||◌, ◌≤◌, is_some, if◌then◌else◌, List, [], ◌∷◌, length, take, drop, Option, Some, None, Result, Ok, Err}
use Rattle.wasi_base.specs.Source.{Told, Given, Bytes, End, Fault, Gives}
use Rattle.wasi_base.specs.declared.stream_error.StreamError.{StreamError}
use Rattle.wasi_base.specs.declared.stream_error.StreamError.TheVariants.{Closed, LastOperationFailed}
use Rattle.wasi_streams.specs.declared.reader_turn.ReaderTurn.{ReaderTurn}
use Rattle.wasi_streams.specs.declared.reader_turn.ReaderTurn.TheVariants as turn
use Rattle.wasi_streams.specs.declared.reader_turn.Waiting.{Waiting}
use Rattle.wasi_streams.specs.declared.reader_turn.Waiting.TheVariants as waiting
use Rattle.wasi_streams.specs.Answers.{skipped}

pub record Reader (S : Type 0) : Type 0 where
  pub source : S
  pub channel : Option Given
  pub kept : List ℕ
  pub ended : Bool
  pub closed : Bool

abbrev pub new_reader : {S : Type 0} → S → Reader S
new_reader source = record { source = source; channel = None; kept = []; ended = false; closed = false }

-- the item that a read takes: the kept bytes, and the channel's item where none are kept
abbrev pub next_item : List ℕ → Option Given → Option Given
next_item [] channel = channel
next_item (b ∷ kept) channel = Some (Bytes (b ∷ kept))

-- what is in the channel once it is taken
abbrev pub channel_after : List ℕ → Option Given → Option Given
channel_after [] channel = None
channel_after (b ∷ kept) channel = channel

-- what a read is told of it: no bytes where there is none
abbrev pub item_read : Option Given → ℕ → Result (List ℕ) StreamError
item_read None size = Ok []
item_read (Some (Bytes bytes)) size = Ok (take size bytes)
item_read (Some End) size = Err Closed
item_read (Some (Fault kind)) size = Err (LastOperationFailed kind)

abbrev pub item_bytes : Option Given → List ℕ
item_bytes None = []
item_bytes (Some (Bytes bytes)) = bytes
item_bytes (Some End) = []
item_bytes (Some (Fault kind)) = []

-- the end and a fault close the stream
abbrev pub closes : Option Given → Bool
closes None = false
closes (Some (Bytes bytes)) = false
closes (Some End) = true
closes (Some (Fault kind)) = true

abbrev pub reader_read : {S : Type 0} → Reader S → ℕ → Result (List ℕ) StreamError
reader_read r size = if r.closed then Err Closed else item_read (next_item r.kept r.channel) size

abbrev pub after_reader_read : {S : Type 0} → Reader S → ℕ → Reader S
after_reader_read r size = if r.closed then r else record {
  source = r.source;
  channel = channel_after r.kept r.channel;
  kept = drop size (item_bytes (next_item r.kept r.channel));
  ended = r.ended;
  closed = closes (next_item r.kept r.channel);
}

abbrev pub reader_skip : {S : Type 0} → Reader S → ℕ → Result ℕ StreamError
reader_skip r size = skipped (reader_read r size)

-- ready once an item is there or the stream is closed
abbrev pub reader_is_ready : {S : Type 0} → Reader S → Bool
reader_is_ready r = r.closed || is_some (next_item r.kept r.channel)

abbrev pub cancelled : {S : Type 0} → Reader S → Reader S
cancelled r = record { source = r.source; channel = None; kept = []; ended = r.ended; closed = true }

-- a turn does nothing where the channel is full or the task has ended
abbrev pub reader_is_idle : {S : Type 0} → Reader S → Bool
reader_is_idle r = is_some r.channel || r.ended

abbrev pub turn_of : Given → ReaderTurn
turn_of (Bytes bytes) = turn.Gave (length bytes)
turn_of End = turn.End
turn_of (Fault kind) = turn.Fault kind

-- else one read of the source goes into the channel; the end and a fault end the task
pub record ReadsAhead {S : Type 0} (told : S → Option Told) (before : Reader S) (answer : ReaderTurn) (after : Reader S) : Type 0 where
  pub given : Given
  pub gives : Gives (told before.source) 65536 given (told after.source)
  pub answer_is : answer ≡ turn_of given
  pub after_is : after ≡ record { source = after.source; channel = Some given; kept = before.kept; ended = closes (Some given); closed = before.closed }

abbrev pub OnTurnFault : ReaderTurn → Type 0 → Type 0
OnTurnFault (turn.Gave n) P = Unit {0}
OnTurnFault turn.End P = Unit {0}
OnTurnFault (turn.Fault kind) P = P
OnTurnFault turn.Idle P = Unit {0}

-- the number of its bytes stands for an item in the code
abbrev pub counted : Option Given → Option Waiting
counted None = None
counted (Some (Bytes bytes)) = Some (waiting.Bytes (length bytes))
counted (Some End) = Some waiting.End
counted (Some (Fault kind)) = Some (waiting.Fault kind)

abbrev pub item_of : Option Waiting → List ℕ → Option Given
item_of None block = None
item_of (Some (waiting.Bytes n)) block = Some (Bytes (take n block))
item_of (Some waiting.End) block = Some End
item_of (Some (waiting.Fault kind)) block = Some (Fault kind)

-- bytes in the channel fit its block, and are one at least
abbrev pub FitsBlock : Option Waiting → Type 0
FitsBlock None = Unit {0}
FitsBlock (Some (waiting.Bytes n)) = (1 ≤ n) × (n ≤ 65536)
FitsBlock (Some waiting.End) = Unit {0}
FitsBlock (Some (waiting.Fault kind)) = Unit {0}
