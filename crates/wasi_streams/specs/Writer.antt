-- An output that buffers what it accepts until its writer task hands it to the sink.
use Rattle.std.specs.Prelude.{◌≡◌, ℕ, ◌-◌, Bool, true, false, nat_lt, if◌then◌else◌, List, [], ◌∷◌, ◌++◌, length, drop, Option, Result, Ok, Err}
use Rattle.wasi_base.specs.Sink.{Limits, Writes, Flushes}
use Rattle.wasi_base.specs.declared.io_kind.IoKind.{IoKind}
use Rattle.wasi_base.specs.declared.stream_error.StreamError.{StreamError}
use Rattle.wasi_base.specs.declared.stream_error.StreamError.TheVariants.{Closed, LastOperationFailed, Trap}
use Rattle.wasi_base.specs.declared.trap_text.TrapText.TheVariants.{WriteWhileFlushPending, WriteExceededBudget}
use Rattle.wasi_streams.specs.declared.writer_turn.WriterTurn.{WriterTurn}
use Rattle.wasi_streams.specs.declared.writer_turn.WriterTurn.TheVariants as turn
use Rattle.wasi_streams.specs.declared.writer_turn.Trouble.{Trouble}
use Rattle.wasi_streams.specs.declared.writer_turn.Trouble.TheVariants.{Nothing, Untold, Told}
use Rattle.wasi_streams.specs.Outputs.{Took}

pub record Writer (K : Type 0) : Type 0 where
  pub sink : K
  pub budget : ℕ
  pub buffered : List ℕ
  pub flushing : Bool
  pub trouble : Trouble

abbrev pub new_writer : {K : Type 0} → ℕ → K → Writer K
new_writer budget sink = record { sink = sink; budget = budget; buffered = []; flushing = false; trouble = Nothing }

abbrev pub budget_left : {K : Type 0} → Writer K → ℕ
budget_left w = w.budget - length w.buffered

-- a fault that no call told yet is told first, once; after that the stream is closed
abbrev pub told_first : {A : Type 0} → Trouble → Result A StreamError → Result A StreamError
told_first Nothing answer = answer
told_first (Untold kind) answer = Err (LastOperationFailed kind)
told_first Told answer = Err Closed

abbrev pub after_told : {K : Type 0} → Trouble → Writer K → Writer K → Writer K
after_told Nothing w after = after
after_told (Untold kind) w after = record { sink = w.sink; budget = w.budget; buffered = w.buffered; flushing = w.flushing; trouble = Told }
after_told Told w after = w

-- how many bytes one write may have: none while a flush is pending
abbrev pub permit : {K : Type 0} → Writer K → ℕ
permit w = if w.flushing then 0 else budget_left w

abbrev pub writer_check_write : {K : Type 0} → Writer K → Result ℕ StreamError
writer_check_write w = told_first w.trouble (Ok (permit w))

abbrev pub after_writer_check_write : {K : Type 0} → Writer K → Writer K
after_writer_check_write w = after_told w.trouble w w

abbrev pub accepts : {K : Type 0} → Writer K → List ℕ → Result (Unit {0}) StreamError
accepts w bytes = if w.flushing then Err (Trap WriteWhileFlushPending) else if nat_lt (budget_left w) (length bytes) then Err (Trap WriteExceededBudget) else Ok tt

abbrev pub with_accepted : {K : Type 0} → Writer K → List ℕ → Writer K
with_accepted w bytes = record { sink = w.sink; budget = w.budget; buffered = w.buffered ++ bytes; flushing = w.flushing; trouble = w.trouble }

abbrev pub buffering : {K : Type 0} → Writer K → List ℕ → Writer K
buffering w bytes = if w.flushing then w else if nat_lt (budget_left w) (length bytes) then w else with_accepted w bytes

abbrev pub writer_write : {K : Type 0} → Writer K → List ℕ → Result (Unit {0}) StreamError
writer_write w bytes = told_first w.trouble (accepts w bytes)

abbrev pub after_writer_write : {K : Type 0} → Writer K → List ℕ → Writer K
after_writer_write w bytes = after_told w.trouble w (buffering w bytes)

abbrev pub writer_flush : {K : Type 0} → Writer K → Result (Unit {0}) StreamError
writer_flush w = told_first w.trouble (Ok tt)

abbrev pub after_writer_flush : {K : Type 0} → Writer K → Writer K
after_writer_flush w = after_told w.trouble w (record { sink = w.sink; budget = w.budget; buffered = w.buffered; flushing = true; trouble = w.trouble })

-- ready where a call would be told something: a fault, the end, or room
abbrev pub ready_by : {K : Type 0} → Trouble → Writer K → Bool
ready_by Nothing w = nat_lt 0 (permit w)
ready_by (Untold kind) w = true
ready_by Told w = true

abbrev pub writer_is_ready : {K : Type 0} → Writer K → Bool
writer_is_ready w = ready_by w.trouble w

-- what a turn has to do
pub data Work : Type 0 where
  Nothing_left : Work
  Writing : Work
  Flushing : Work

abbrev pub flush_work : Bool → Work
flush_work true = Flushing
flush_work false = Nothing_left

abbrev pub work_by : Trouble → List ℕ → Bool → Work
work_by Nothing [] flushing = flush_work flushing
work_by Nothing (b ∷ bytes) flushing = Writing
work_by (Untold kind) bytes flushing = Nothing_left
work_by Told bytes flushing = Nothing_left

abbrev pub work_of : {K : Type 0} → Writer K → Work
work_of w = work_by w.trouble w.buffered w.flushing

-- the answer of a turn that wrote, and what is buffered then; a fault loses what is buffered
abbrev pub turn_written : Result ℕ IoKind → WriterTurn
turn_written (Ok n) = turn.Took n
turn_written (Err kind) = turn.Fault kind

abbrev pub written_left : {K : Type 0} → Result ℕ IoKind → Writer K → K → Writer K
written_left (Ok n) w sink = record { sink = sink; budget = w.budget; buffered = drop n w.buffered; flushing = w.flushing; trouble = w.trouble }
written_left (Err kind) w sink = record { sink = sink; budget = w.budget; buffered = []; flushing = w.flushing; trouble = Untold kind }

-- all that is buffered goes to the sink in one write
pub record WritesOnce {K : Type 0} (taken : K → Option (List ℕ)) (limits : K → Option Limits) (before : Writer K) (answer : WriterTurn) (after : Writer K) : Type 0 where
  pub part : Result ℕ IoKind
  pub took : Took (taken before.sink) before.buffered part (taken after.sink)
  pub told : Writes (limits before.sink) (length before.buffered) part (limits after.sink)
  pub answer_is : answer ≡ turn_written part
  pub after_is : after ≡ written_left part before after.sink

abbrev pub turn_flushed : Result (Unit {0}) IoKind → WriterTurn
turn_flushed (Ok done) = turn.Flushed
turn_flushed (Err kind) = turn.Fault kind

abbrev pub flushed_left : {K : Type 0} → Result (Unit {0}) IoKind → Writer K → K → Writer K
flushed_left (Ok done) w sink = record { sink = sink; budget = w.budget; buffered = []; flushing = false; trouble = w.trouble }
flushed_left (Err kind) w sink = record { sink = sink; budget = w.budget; buffered = []; flushing = w.flushing; trouble = Untold kind }

-- the sink is flushed once, which changes no byte
pub record FlushesSink {K : Type 0} (taken : K → Option (List ℕ)) (limits : K → Option Limits) (before : Writer K) (answer : WriterTurn) (after : Writer K) : Type 0 where
  pub flush : Result (Unit {0}) IoKind
  pub same : taken after.sink ≡ taken before.sink
  pub told : Flushes (limits before.sink) flush (limits after.sink)
  pub answer_is : answer ≡ turn_flushed flush
  pub after_is : after ≡ flushed_left flush before after.sink

abbrev pub OnTurnFault : WriterTurn → Type 0 → Type 0
OnTurnFault (turn.Took n) P = Unit {0}
OnTurnFault turn.Flushed P = Unit {0}
OnTurnFault (turn.Fault kind) P = P
OnTurnFault turn.Idle P = Unit {0}
