-- Pipes in memory. Of an input pipe counts what is left.
use Rattle.std.specs.Prelude.{ℕ, zero, suc, ◌-◌, min, nat_lt, if◌then◌else◌, List, [], ◌∷◌, ◌++◌, length, take, drop, Result, Ok, Err}
use Rattle.wasi_base.specs.declared.polled.Polled.{Polled}
use Rattle.wasi_base.specs.declared.polled.Polled.TheVariants.{Ready}
use Rattle.wasi_base.specs.declared.stream_error.StreamError.{StreamError}
use Rattle.wasi_base.specs.declared.stream_error.StreamError.TheVariants.{Closed, Trap}
use Rattle.wasi_base.specs.declared.trap_text.TrapText.TheVariants.{WriteBeyondCapacity}
use Rattle.wasi_streams.specs.Answers.{skipped}

-- an empty pipe is closed, for a read of size 0 too
abbrev pub pipe_read : List ℕ → ℕ → Result (List ℕ) StreamError
pipe_read [] size = Err Closed
pipe_read (b ∷ left) size = Ok (take size (b ∷ left))

abbrev pub after_pipe_read : List ℕ → ℕ → List ℕ
after_pipe_read left size = drop size left

abbrev pub pipe_skip : List ℕ → ℕ → Result ℕ StreamError
pipe_skip left size = skipped (pipe_read left size)

abbrev pub pipe_poll_read : List ℕ → ℕ → Polled (List ℕ)
pipe_poll_read left room = Ready (take room left)

-- an output pipe: all that it took, and the room that it has left
pub record OutPipe : Type 0 where
  pub contents : List ℕ
  pub room : ℕ

abbrev pub check_by : ℕ → Result ℕ StreamError
check_by zero = Err Closed
check_by (suc room) = Ok (suc room)

abbrev pub out_pipe_check_write : OutPipe → Result ℕ StreamError
out_pipe_check_write pipe = check_by pipe.room

-- the pipe with these bytes more
abbrev pub with_bytes : OutPipe → List ℕ → OutPipe
with_bytes pipe bytes = record { contents = pipe.contents ++ bytes; room = pipe.room - length bytes }

-- a write past the room takes nothing
abbrev pub out_pipe_write : OutPipe → List ℕ → Result (Unit {0}) StreamError
out_pipe_write pipe bytes = if nat_lt pipe.room (length bytes) then Err (Trap WriteBeyondCapacity) else Ok tt

abbrev pub after_out_pipe_write : OutPipe → List ℕ → OutPipe
after_out_pipe_write pipe bytes = if nat_lt pipe.room (length bytes) then pipe else with_bytes pipe bytes

abbrev pub out_pipe_flush : Result (Unit {0}) StreamError
out_pipe_flush = Ok tt

-- a polled write takes what fits
abbrev pub out_pipe_poll_write : OutPipe → List ℕ → ℕ
out_pipe_poll_write pipe piece = min (length piece) pipe.room

abbrev pub after_out_pipe_poll_write : OutPipe → List ℕ → OutPipe
after_out_pipe_poll_write pipe piece = with_bytes pipe (take pipe.room piece)
