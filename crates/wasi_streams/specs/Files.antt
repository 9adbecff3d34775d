-- Input over a source: each call reads it once.
use Rattle.std.specs.Prelude.{◌≡◌, ℕ, zero, suc, min, List, [], Option, Result, Ok, Err}
use Rattle.wasi_base.specs.Source.{Told, Given, Bytes, End, Fault, gives, told_after, Gives}
use Rattle.wasi_base.specs.declared.polled.Polled.{Polled}
use Rattle.wasi_base.specs.declared.polled.Polled.TheVariants.{Ready, Failed}
use Rattle.wasi_base.specs.declared.stream_error.StreamError.{StreamError}
use Rattle.wasi_base.specs.declared.stream_error.StreamError.TheVariants.{Closed, LastOperationFailed}
use Rattle.wasi_streams.specs.Answers.{skipped}

-- what a read is told of what the source gave
abbrev pub file_answer : Given → Result (List ℕ) StreamError
file_answer (Bytes bytes) = Ok bytes
file_answer End = Err Closed
file_answer (Fault kind) = Err (LastOperationFailed kind)

abbrev pub file_skip_answer : Given → Result ℕ StreamError
file_skip_answer given = skipped (file_answer given)

-- what a polled read is told: no bytes at the end
abbrev pub file_poll_answer : Given → Polled (List ℕ)
file_poll_answer (Bytes bytes) = Ready bytes
file_poll_answer End = Ready []
file_poll_answer (Fault kind) = Failed kind

-- at most so many bytes are read at once
abbrev pub file_room : ℕ → ℕ
file_room size = min size 65536

-- over a source that tells what it has left: a read of size 0 gives no bytes and reads nothing
abbrev pub file_read : Told → ℕ → Result (List ℕ) StreamError
file_read told zero = Ok []
file_read told (suc n) = file_answer (gives told (file_room (suc n)))

abbrev pub after_file_read : Told → ℕ → Told
after_file_read told zero = told
after_file_read told (suc n) = told_after told (file_room (suc n))

abbrev pub file_skip : Told → ℕ → Result ℕ StreamError
file_skip told size = skipped (file_read told size)

abbrev pub file_poll_read : Told → ℕ → Polled (List ℕ)
file_poll_read told zero = Ready []
file_poll_read told (suc n) = file_poll_answer (gives told (file_room (suc n)))

-- over any source: one read of this room, told in the call's own words
pub record ReadsOnce {A : Type 0} (tell : Given → A) (before : Option Told) (room : ℕ) (answer : A) (after : Option Told) : Type 0 where
  pub given : Given
  pub gives : Gives before room given after
  pub answer_is : answer ≡ tell given
