-- Outputs over a sink that keep nothing back.
use Rattle.std.specs.Prelude.{◌≡◌, ℕ, ◌<◌, ◌≤◌, nat_lt, if◌then◌else◌, List, [], ◌∷◌, ◌++◌, length, take, Option, Some, Result, Ok, Err, IfErr}
use Rattle.wasi_base.specs.Sink.{Limits, with_more, written, after_write, flushed, after_flush, written_all, after_write_all, count_out, Writes, Flushes, WritesAll}
use Rattle.wasi_base.specs.StreamError.{stream_error_of}
use Rattle.wasi_base.specs.declared.io_kind.IoKind.{IoKind}
use Rattle.wasi_base.specs.declared.polled.Polled.{Polled}
use Rattle.wasi_base.specs.declared.polled.Polled.TheVariants.{Ready, Failed}
use Rattle.wasi_base.specs.declared.sink.WriteStop.{WriteStop}
use Rattle.wasi_base.specs.declared.stream_error.StreamError.{StreamError}
use Rattle.wasi_base.specs.declared.stream_error.StreamError.TheVariants.{LastOperationFailed, Trap}
use Rattle.wasi_base.specs.declared.trap_text.TrapText.TheVariants.{WriteExceededBudget}

-- an output over a sink that tells them: what the sink took, and the limits that it has left
pub record Outlet : Type 0 where
  pub taken : List ℕ
  pub limits : Limits

-- what a sink tells is this
abbrev pub IsOutlet : Option (List ℕ) → Option Limits → Outlet → Type 0
IsOutlet taken limits out = (taken ≡ Some out.taken) × (limits ≡ Some out.limits)

-- a write of all bytes, by writes of the sink until one fails: what went out stays out
abbrev pub sent : List ℕ → Result (Unit {0}) WriteStop → List ℕ
sent bytes stop = take (count_out (length bytes) stop) bytes

abbrev pub all_written : Outlet → List ℕ → Result (Unit {0}) WriteStop
all_written out bytes = written_all out.limits (length bytes)

abbrev pub after_all_written : Outlet → List ℕ → Outlet
after_all_written out bytes = record { taken = out.taken ++ sent bytes (all_written out bytes); limits = after_write_all out.limits (length bytes) }

-- one write of the sink, of no bytes none
abbrev pub part_written : Outlet → List ℕ → Result ℕ IoKind
part_written out [] = Ok 0
part_written out (b ∷ piece) = written out.limits (length (b ∷ piece))

abbrev pub taken_with : List ℕ → List ℕ → Result ℕ IoKind → List ℕ
taken_with taken piece (Ok count) = taken ++ take count piece
taken_with taken piece (Err kind) = taken

abbrev pub after_part_written : Outlet → List ℕ → Outlet
after_part_written out [] = out
after_part_written out (b ∷ piece) = record { taken = taken_with out.taken (b ∷ piece) (part_written out (b ∷ piece)); limits = after_write out.limits (length (b ∷ piece)) }

abbrev pub after_flushed : Outlet → Outlet
after_flushed out = record { taken = out.taken; limits = after_flush out.limits }

-- the answers, by what a fault is called
abbrev pub write_answer : (IoKind → StreamError) → Result (Unit {0}) WriteStop → Result (Unit {0}) StreamError
write_answer error (Ok done) = Ok tt
write_answer error (Err stop) = Err (error stop.kind)

abbrev pub flush_answer : (IoKind → StreamError) → Result (Unit {0}) IoKind → Result (Unit {0}) StreamError
flush_answer error (Ok done) = Ok tt
flush_answer error (Err kind) = Err (error kind)

-- a polled call names the fault itself
abbrev pub poll_all_answer : ℕ → Result (Unit {0}) WriteStop → Polled ℕ
poll_all_answer n (Ok done) = Ready n
poll_all_answer n (Err stop) = Failed stop.kind

abbrev pub poll_part_answer : Result ℕ IoKind → Polled ℕ
poll_part_answer (Ok count) = Ready count
poll_part_answer (Err kind) = Failed kind

abbrev pub poll_flush_answer : Result (Unit {0}) IoKind → Polled (Unit {0})
poll_flush_answer (Ok done) = Ready tt
poll_flush_answer (Err kind) = Failed kind

-- a file: every fault is told as one, a broken pipe too
abbrev pub file_check_write : Result ℕ StreamError
file_check_write = Ok 65536

abbrev pub file_write : Outlet → List ℕ → Result (Unit {0}) StreamError
file_write out bytes = write_answer LastOperationFailed (all_written out bytes)

abbrev pub file_flush : Outlet → Result (Unit {0}) StreamError
file_flush out = flush_answer LastOperationFailed (flushed out.limits)

abbrev pub file_poll_write : Outlet → List ℕ → Polled ℕ
file_poll_write out piece = poll_all_answer (length piece) (all_written out piece)

abbrev pub file_poll_flush : Outlet → Polled (Unit {0})
file_poll_flush out = poll_flush_answer (flushed out.limits)

-- a standard output: a broken pipe is its end, and more than 65536 bytes are refused
abbrev pub stdio_check_write : Result ℕ StreamError
stdio_check_write = Ok 65536

abbrev pub stdio_write : Outlet → List ℕ → Result (Unit {0}) StreamError
stdio_write out bytes = if nat_lt 65536 (length bytes) then Err (Trap WriteExceededBudget) else write_answer stream_error_of (all_written out bytes)

abbrev pub after_stdio_write : Outlet → List ℕ → Outlet
after_stdio_write out bytes = if nat_lt 65536 (length bytes) then out else after_all_written out bytes

abbrev pub stdio_flush : Outlet → Result (Unit {0}) StreamError
stdio_flush out = flush_answer stream_error_of (flushed out.limits)

abbrev pub stdio_poll_write : Outlet → List ℕ → Polled ℕ
stdio_poll_write out piece = poll_part_answer (part_written out piece)

abbrev pub stdio_poll_flush : Outlet → Polled (Unit {0})
stdio_poll_flush out = poll_flush_answer (flushed out.limits)

-- over any sink: all bytes went out, or those before a write that failed
pub record SendsAll {A : Type 0} (tell : Result (Unit {0}) WriteStop → A) (bytes : List ℕ) (taken : Option (List ℕ)) (limits : Option Limits) (answer : A) (taken' : Option (List ℕ)) (limits' : Option Limits) : Type 0 where
  pub stop : Result (Unit {0}) WriteStop
  pub part : IfErr stop (λ s. s.taken < length bytes)
  pub took : taken' ≡ with_more taken (sent bytes stop)
  pub told : WritesAll limits (length bytes) stop limits'
  pub answer_is : answer ≡ tell stop

-- what one write of a piece that is not empty took
abbrev pub Took : Option (List ℕ) → List ℕ → Result ℕ IoKind → Option (List ℕ) → Type 0
Took taken piece (Ok count) taken' = (0 < count) × (count ≤ length piece) × (taken' ≡ with_more taken (take count piece))
Took taken piece (Err kind) taken' = taken' ≡ taken

pub record SendsPart (piece : List ℕ) (taken : Option (List ℕ)) (limits : Option Limits) (answer : Polled ℕ) (taken' : Option (List ℕ)) (limits' : Option Limits) : Type 0 where
  pub part : Result ℕ IoKind
  pub took : Took taken piece part taken'
  pub told : Writes limits (length piece) part limits'
  pub answer_is : answer ≡ poll_part_answer part

pub record FlushesOnce {A : Type 0} (tell : Result (Unit {0}) IoKind → A) (limits : Option Limits) (answer : A) (limits' : Option Limits) : Type 0 where
  pub flush : Result (Unit {0}) IoKind
  pub told : Flushes limits flush limits'
  pub answer_is : answer ≡ tell flush
