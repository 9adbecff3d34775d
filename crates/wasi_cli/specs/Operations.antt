-- The operations of polls on a shared stream: what each comes to, and the stream after it.
use Rattle.std.specs.Prelude.{ℕ, zero, suc, min, if◌then◌else◌, List, length, take, Result, Ok, Err}
use Rattle.wasi_base.specs.declared.stream_error.StreamError.{StreamError}
use Rattle.wasi_base.specs.declared.stream_error.StreamError.TheVariants.{Closed, LastOperationFailed, Trap, OutOfMemory}
use Rattle.wasi_streams.specs.Reader.{Reader, reader_is_ready, reader_read, after_reader_read}
use Rattle.wasi_streams.specs.Writer.{Writer, writer_is_ready, writer_check_write, after_writer_check_write, after_writer_write, writer_flush, after_writer_flush}
use Rattle.wasi_cli.specs.declared.outcome.Outcome.{Outcome}
use Rattle.wasi_cli.specs.declared.outcome.Outcome.TheVariants.{Waits, Gives, Closes, Fails}

-- a trap and out of memory are no outcome
abbrev pub IsTold : {A : Type 0} → Result A StreamError → Type 0
IsTold (Ok a) = Unit {0}
IsTold (Err Closed) = Unit {0}
IsTold (Err (LastOperationFailed kind)) = Unit {0}
IsTold (Err (Trap text)) = ⊥
IsTold (Err OutOfMemory) = ⊥

-- the last two rows are never met: no operation traps, and out of memory is answered apart
abbrev pub outcome_of : {A : Type 0} → Result A StreamError → Outcome A
outcome_of (Ok a) = Gives a
outcome_of (Err Closed) = Closes
outcome_of (Err (LastOperationFailed kind)) = Fails kind
outcome_of (Err (Trap text)) = Waits
outcome_of (Err OutOfMemory) = Waits

-- a read waits until the stream is ready
abbrev pub read_outcome : {S : Type 0} → Reader S → ℕ → Outcome (List ℕ)
read_outcome r room = if reader_is_ready r then outcome_of (reader_read r room) else Waits

abbrev pub after_read : {S : Type 0} → Reader S → ℕ → Reader S
after_read r room = if reader_is_ready r then after_reader_read r room else r

-- a write is of as many bytes as the stream permits, and waits until it permits one
abbrev pub count_outcome : ℕ → Outcome ℕ
count_outcome zero = Waits
count_outcome (suc m) = Gives (suc m)

abbrev pub permit_outcome : Result ℕ StreamError → ℕ → Outcome ℕ
permit_outcome (Ok permit) n = count_outcome (min permit n)
permit_outcome (Err error) n = outcome_of (Err error)

abbrev pub write_outcome : {K : Type 0} → Writer K → List ℕ → Outcome ℕ
write_outcome w piece = permit_outcome (writer_check_write w) (length piece)

abbrev pub after_count : {K : Type 0} → Writer K → List ℕ → ℕ → Writer K
after_count w piece zero = w
after_count w piece (suc m) = after_writer_write w (take (suc m) piece)

abbrev pub after_permit : {K : Type 0} → Writer K → List ℕ → Result ℕ StreamError → Writer K
after_permit w piece (Ok permit) = after_count w piece (min permit (length piece))
after_permit w piece (Err error) = after_writer_check_write w

abbrev pub after_write : {K : Type 0} → Writer K → List ℕ → Writer K
after_write w piece = after_permit w piece (writer_check_write w)

-- a flush is asked for once the stream is ready ..
abbrev pub flush_outcome : {K : Type 0} → Writer K → Outcome (Unit {0})
flush_outcome w = if writer_is_ready w then outcome_of (writer_flush w) else Waits

abbrev pub after_flush : {K : Type 0} → Writer K → Writer K
after_flush w = if writer_is_ready w then after_writer_flush w else w

-- .. and is done once it is ready again
abbrev pub checked_outcome : Result ℕ StreamError → Outcome (Unit {0})
checked_outcome (Ok permit) = Gives tt
checked_outcome (Err error) = outcome_of (Err error)

abbrev pub flushed_outcome : {K : Type 0} → Writer K → Outcome (Unit {0})
flushed_outcome w = if writer_is_ready w then checked_outcome (writer_check_write w) else Waits

abbrev pub after_flushed : {K : Type 0} → Writer K → Writer K
after_flushed w = if writer_is_ready w then after_writer_check_write w else w
