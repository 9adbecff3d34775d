-- Polls of a handle on a shared output.
use Rattle.std.specs.Prelude.{ℕ, Bool, true, false, List, [], ◌∷◌, Option, Some, None, if◌then◌else◌}
use Rattle.wasi_base.specs.declared.polled.Polled.{Polled}
use Rattle.wasi_base.specs.declared.polled.Polled.TheVariants.{Pending, Ready, Failed}
use Rattle.wasi_streams.specs.Writer.{Writer}
use Rattle.wasi_cli.specs.declared.handle.StdioHandle.{StdioHandle}
use Rattle.wasi_cli.specs.declared.owner.Owner.{Owner}
use Rattle.wasi_cli.specs.declared.stdout_handle.StdoutHandle.{StdoutHandle}
use Rattle.wasi_cli.specs.Turns.{Turn}
use Rattle.wasi_cli.specs.Operations.{write_outcome, after_write, flush_outcome, after_flush, flushed_outcome, after_flushed}
use Rattle.wasi_cli.specs.Polls.{Poll, Standing, one_poll, with_none, stopped}

-- a poll of the handle within it
abbrev pub of_handle : {A S : Type 0} → Bool → Poll StdioHandle A S → Poll StdoutHandle A S
of_handle flushing poll = record { answer = poll.answer; handle = record { handle = poll.handle; flushing = flushing }; turn = poll.turn; stream = poll.stream }

abbrev pub standing_of : {S : Type 0} → Bool → Standing StdioHandle S → Standing StdoutHandle S
standing_of flushing now = record { handle = record { handle = now.handle; flushing = flushing }; turn = now.turn; stream = now.stream }

-- a write of no bytes asks for no turn
abbrev pub write_poll : {K : Type 0} → StdoutHandle → Owner → Turn → Writer K → List ℕ → Poll StdoutHandle ℕ (Writer K)
write_poll h who turn w [] = record { answer = Ready 0; handle = h; turn = turn; stream = w }
write_poll h who turn w (b ∷ piece) = of_handle h.flushing (with_none 0 (one_poll h.handle who turn w (write_outcome w (b ∷ piece)) (after_write w (b ∷ piece))))

abbrev pub write_stopped : {K : Type 0} → StdoutHandle → Owner → Turn → Writer K → Standing StdoutHandle (Writer K)
write_stopped h who turn w = standing_of h.flushing (stopped h.handle who turn w)

-- the second poll of a flush ends it, unless it is pending
abbrev pub is_pending : {A : Type 0} → Polled A → Bool
is_pending Pending = true
is_pending (Ready a) = false
is_pending (Failed kind) = false

abbrev pub ended_by : {S : Type 0} → Poll StdioHandle (Option (Unit {0})) S → Poll StdoutHandle (Unit {0}) S
ended_by poll = of_handle (is_pending poll.answer) (with_none tt poll)

abbrev pub second_poll : {K : Type 0} → StdioHandle → Owner → Turn → Writer K → Poll StdoutHandle (Unit {0}) (Writer K)
second_poll h who turn w = ended_by (one_poll h who turn w (flushed_outcome w) (after_flushed w))

-- the first poll of a flush
abbrev pub first_poll : {K : Type 0} → StdioHandle → Owner → Turn → Writer K → Poll StdioHandle (Option (Unit {0})) (Writer K)
first_poll h who turn w = one_poll h who turn w (flush_outcome w) (after_flush w)

-- goes on to the second where it asked for the flush
abbrev pub then_second : {K : Type 0} → Polled (Option (Unit {0})) → Poll StdioHandle (Option (Unit {0})) (Writer K) → Owner → Poll StdoutHandle (Unit {0}) (Writer K)
then_second Pending first who = of_handle false (with_none tt first)
then_second (Ready None) first who = of_handle false (with_none tt first)
then_second (Ready (Some done)) first who = second_poll first.handle who first.turn first.stream
then_second (Failed kind) first who = of_handle false (with_none tt first)

abbrev pub flush_from_first : {K : Type 0} → Poll StdioHandle (Option (Unit {0})) (Writer K) → Owner → Poll StdoutHandle (Unit {0}) (Writer K)
flush_from_first first who = then_second first.answer first who

abbrev pub flush_poll : {K : Type 0} → StdoutHandle → Owner → Turn → Writer K → Poll StdoutHandle (Unit {0}) (Writer K)
flush_poll h who turn w = if h.flushing then second_poll h.handle who turn w else flush_from_first (first_poll h.handle who turn w) who
