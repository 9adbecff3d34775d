-- Streams that the entries of guests share: whose turn it is, the calls on them, and who leaves them.
use Rattle.std.specs.Prelude.{ℕ, Bool, ◌&&◌, not, is_some, if◌then◌else◌, List, [], Option, None, Result}
use Rattle.wasi_base.specs.declared.stream_error.StreamError.{StreamError}
use Rattle.wasi_base.specs.declared.trap_text.TrapText.TheVariants.{ConcurrentReads, ConcurrentSkips, ConcurrentCheckWrites, ConcurrentWrites, ConcurrentFlushes}
use Rattle.wasi_streams.specs.Reader.{Reader, reader_read, reader_skip}
use Rattle.wasi_streams.specs.Writer.{Writer, writer_check_write, writer_write, writer_flush}
use Rattle.wasi_cli.specs.declared.owner.Owner.{Owner}
use Rattle.wasi_cli.specs.declared.handle.StdioHandle.{StdioHandle}
use Rattle.wasi_cli.specs.Turns.{Turn, gets_turn, after_ask, after_free, after_end}
use Rattle.wasi_cli.specs.Shared.{unless_held, after_unless_held}
use Rattle.wasi_cli.specs.Operations.{read_outcome, after_read}
use Rattle.wasi_cli.specs.Polls.{Poll, one_poll, with_none}
use Rattle.wasi_host.specs.declared.leaver.Leaver.{Leaver}
use Rattle.wasi_host.specs.declared.leaver.Leaver.TheVariants as leaver

pub record InTurn (S : Type 0) : Type 0 where
  pub turn : Turn
  pub stream : S

abbrev pub untaken : {S : Type 0} → S → InTurn S
untaken stream = record { turn = record { holder = None; waiting = [] }; stream = stream }

-- ---- plain calls, which trap while anybody has the turn
abbrev pub after_plain : {S : Type 0} → InTurn S → S → InTurn S
after_plain it after = record { turn = it.turn; stream = after_unless_held it.turn.holder it.stream after }

abbrev pub shared_read : {S : Type 0} → InTurn (Reader S) → ℕ → Result (List ℕ) StreamError
shared_read it size = unless_held it.turn.holder ConcurrentReads (reader_read it.stream size)

abbrev pub shared_skip : {S : Type 0} → InTurn (Reader S) → ℕ → Result ℕ StreamError
shared_skip it size = unless_held it.turn.holder ConcurrentSkips (reader_skip it.stream size)

abbrev pub shared_check_write : {K : Type 0} → InTurn (Writer K) → Result ℕ StreamError
shared_check_write it = unless_held it.turn.holder ConcurrentCheckWrites (writer_check_write it.stream)

abbrev pub shared_write : {K : Type 0} → InTurn (Writer K) → List ℕ → Result (Unit {0}) StreamError
shared_write it bytes = unless_held it.turn.holder ConcurrentWrites (writer_write it.stream bytes)

abbrev pub shared_flush : {K : Type 0} → InTurn (Writer K) → Result (Unit {0}) StreamError
shared_flush it = unless_held it.turn.holder ConcurrentFlushes (writer_flush it.stream)

-- ---- polls, which ask for the turn
abbrev pub shared_poll_read : {S : Type 0} → StdioHandle → Owner → InTurn (Reader S) → ℕ → Poll StdioHandle (List ℕ) (Reader S)
shared_poll_read handle who it room = with_none [] (one_poll handle who it.turn it.stream (read_outcome it.stream room) (after_read it.stream room))

abbrev pub poll_left : {H A S : Type 0} → Poll H A S → InTurn S
poll_left poll = record { turn = poll.turn; stream = poll.stream }

-- ---- pollables: one is ready where nobody has the turn and the stream is ready; a block asks for the turn, and gives it
-- on once the stream is ready
abbrev pub is_ready_in : Turn → Bool → Bool
is_ready_in turn ready = not (is_some turn.holder) && ready

abbrev pub block_in : Turn → Bool → Owner → Bool
block_in turn ready who = gets_turn turn.holder who && ready

abbrev pub turn_after_block : Turn → Bool → Owner → Turn
turn_after_block turn ready who = if block_in turn ready who then after_free (after_ask turn who) who else after_ask turn who

abbrev pub after_block : {S : Type 0} → InTurn S → Bool → Owner → InTurn S
after_block it ready who = record { turn = turn_after_block it.turn ready who; stream = it.stream }

-- ---- an entry that goes, or a guest that ends, gives up its turn and its place among those that wait
abbrev pub turn_without : Leaver → Turn → Turn
turn_without (leaver.Entry who) turn = after_free turn who
turn_without (leaver.Guest guest) turn = after_end turn guest

abbrev pub without_leaver : {S : Type 0} → Leaver → InTurn S → InTurn S
without_leaver who it = record { turn = turn_without who it.turn; stream = it.stream }

-- where a call found no memory, the turn that it took is given up again
abbrev pub undone : Turn → Option Owner → Owner → Turn
undone turn before who = if is_some before then turn else after_free turn who
