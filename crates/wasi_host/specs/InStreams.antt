-- What inputs answer that are not the shared one: the declared ones, and one at its end.
use Rattle.std.specs.Prelude.{ℕ, Bool, true, List, [], Result, Err}
use Rattle.wasi_base.specs.declared.polled.Polled.{Polled}
use Rattle.wasi_base.specs.declared.polled.Polled.TheVariants.{Ready, Pending}
use Rattle.wasi_base.specs.declared.stream_error.StreamError.{StreamError}
use Rattle.wasi_base.specs.declared.stream_error.StreamError.TheVariants as error
use Rattle.wasi_streams.specs.Answers.{skipped}
use Rattle.wasi_streams.specs.MemoryPipes.{pipe_read, after_pipe_read, pipe_poll_read}
use Rattle.wasi_streams.specs.Files.{file_read, after_file_read, file_poll_read}
use Rattle.wasi_streams.specs.Reader.{after_reader_read, reader_is_ready}
use Rattle.wasi_cli.specs.declared.owner.Owner.{Owner}
use Rattle.wasi_host.specs.declared.stream.InStream.{InStream}
use Rattle.wasi_host.specs.declared.stream.InStream.TheVariants.{Closed, Pipe, File, Async}
use Rattle.wasi_host.specs.declared.leaver.Leaver.{Leaver}
use Rattle.wasi_host.specs.Turns.{shared_read, shared_skip, after_plain, is_ready_in, block_in, after_block, without_leaver}

abbrev pub input_read : InStream → ℕ → Result (List ℕ) StreamError
input_read (Pipe left) size = pipe_read left size
input_read (File told) size = file_read told size
input_read (Async it) size = shared_read it size
input_read Closed size = Err error.Closed

abbrev pub input_skip : InStream → ℕ → Result ℕ StreamError
input_skip (Async it) size = shared_skip it size
input_skip other size = skipped (input_read other size)

-- a polled read of one that guests do not share by turns
abbrev pub input_poll_read : InStream → ℕ → Polled (List ℕ)
input_poll_read (Pipe left) room = pipe_poll_read left room
input_poll_read (File told) room = file_poll_read told room
input_poll_read (Async it) room = Pending
input_poll_read Closed room = Ready []

-- what a read or a skip leaves
abbrev pub after_input_read : InStream → ℕ → InStream
after_input_read (Pipe left) size = Pipe (after_pipe_read left size)
after_input_read (File told) size = File (after_file_read told size)
after_input_read (Async it) size = Async (after_plain it (after_reader_read it.stream size))
after_input_read Closed size = Closed

-- .. and a polled read
abbrev pub after_input_poll_read : InStream → ℕ → InStream
after_input_poll_read (Async it) room = Async it
after_input_poll_read other room = after_input_read other room

-- a pollable of it is ready, where no task reads ahead always
abbrev pub input_is_ready : InStream → Bool
input_is_ready (Async it) = is_ready_in it.turn (reader_is_ready it.stream)
input_is_ready other = true

-- .. and a block of it is the same, but that it asks for the turn
abbrev pub input_block : InStream → Owner → Bool
input_block (Async it) who = block_in it.turn (reader_is_ready it.stream) who
input_block other who = true

abbrev pub after_input_block : InStream → Owner → InStream
after_input_block (Async it) who = Async (after_block it (reader_is_ready it.stream) who)
after_input_block other who = other

-- without the turns of one who leaves
abbrev pub input_without : Leaver → InStream → InStream
input_without who (Async it) = Async (without_leaver who it)
input_without who other = other
