-- What outputs answer: the declared ones, a closed one, and one that keeps nothing.
use Rattle.std.specs.Prelude.{ℕ, ◌-◌, ◌^◌, Bool, true, List, [], length, Result, Ok, Err}
use Rattle.wasi_base.specs.declared.polled.Polled.{Polled}
use Rattle.wasi_base.specs.declared.polled.Polled.TheVariants.{Ready, Pending}
use Rattle.wasi_base.specs.declared.stream_error.StreamError.{StreamError}
use Rattle.wasi_base.specs.declared.stream_error.StreamError.TheVariants as error
use Rattle.wasi_streams.specs.MemoryPipes.{out_pipe_check_write, out_pipe_write, after_out_pipe_write, out_pipe_flush, out_pipe_poll_write, after_out_pipe_poll_write}
use Rattle.wasi_streams.specs.Outputs.{after_all_written, after_part_written, after_flushed, file_check_write, file_write, file_flush, file_poll_write, file_poll_flush, stdio_check_write, stdio_write, after_stdio_write, stdio_flush, stdio_poll_write, stdio_poll_flush}
use Rattle.wasi_streams.specs.Writer.{after_writer_check_write, after_writer_write, after_writer_flush, writer_is_ready}
use Rattle.wasi_cli.specs.declared.owner.Owner.{Owner}
use Rattle.wasi_host.specs.declared.stream.OutStream.{OutStream}
use Rattle.wasi_host.specs.declared.stream.OutStream.TheVariants.{Closed, Sink, Pipe, File, Stdio, Buffered}
use Rattle.wasi_host.specs.declared.leaver.Leaver.{Leaver}
use Rattle.wasi_host.specs.Turns.{shared_check_write, shared_write, shared_flush, after_plain, is_ready_in, block_in, after_block, without_leaver}

abbrev pub output_check_write : OutStream → Result ℕ StreamError
output_check_write Closed = Err error.Closed
output_check_write Sink = Ok (2 ^ 64 - 1)
output_check_write (Pipe pipe) = out_pipe_check_write pipe
output_check_write (File out) = file_check_write
output_check_write (Stdio out) = stdio_check_write
output_check_write (Buffered it) = shared_check_write it

-- a check of one that buffers may tell its fault
abbrev pub after_output_check_write : OutStream → OutStream
after_output_check_write (Buffered it) = Buffered (after_plain it (after_writer_check_write it.stream))
after_output_check_write other = other

abbrev pub output_write : OutStream → List ℕ → Result (Unit {0}) StreamError
output_write Closed bytes = Err error.Closed
output_write Sink bytes = Ok tt
output_write (Pipe pipe) bytes = out_pipe_write pipe bytes
output_write (File out) bytes = file_write out bytes
output_write (Stdio out) bytes = stdio_write out bytes
output_write (Buffered it) bytes = shared_write it bytes

abbrev pub after_output_write : OutStream → List ℕ → OutStream
after_output_write (Pipe pipe) bytes = Pipe (after_out_pipe_write pipe bytes)
after_output_write (File out) bytes = File (after_all_written out bytes)
after_output_write (Stdio out) bytes = Stdio (after_stdio_write out bytes)
after_output_write (Buffered it) bytes = Buffered (after_plain it (after_writer_write it.stream bytes))
after_output_write other bytes = other

abbrev pub output_flush : OutStream → Result (Unit {0}) StreamError
output_flush Closed = Err error.Closed
output_flush Sink = Ok tt
output_flush (Pipe pipe) = out_pipe_flush
output_flush (File out) = file_flush out
output_flush (Stdio out) = stdio_flush out
output_flush (Buffered it) = shared_flush it

abbrev pub after_output_flush : OutStream → OutStream
after_output_flush (File out) = File (after_flushed out)
after_output_flush (Stdio out) = Stdio (after_flushed out)
after_output_flush (Buffered it) = Buffered (after_plain it (after_writer_flush it.stream))
after_output_flush other = other

-- polls of one that guests do not share by turns; a polled write to a closed output takes nothing
abbrev pub output_poll_write : OutStream → List ℕ → Polled ℕ
output_poll_write Closed piece = Ready 0
output_poll_write Sink piece = Ready (length piece)
output_poll_write (Pipe pipe) piece = Ready (out_pipe_poll_write pipe piece)
output_poll_write (File out) piece = file_poll_write out piece
output_poll_write (Stdio out) piece = stdio_poll_write out piece
output_poll_write (Buffered it) piece = Pending

abbrev pub after_output_poll_write : OutStream → List ℕ → OutStream
after_output_poll_write (Pipe pipe) piece = Pipe (after_out_pipe_poll_write pipe piece)
after_output_poll_write (File out) piece = File (after_all_written out piece)
after_output_poll_write (Stdio out) piece = Stdio (after_part_written out piece)
after_output_poll_write other piece = other

abbrev pub output_poll_flush : OutStream → Polled (Unit {0})
output_poll_flush (File out) = file_poll_flush out
output_poll_flush (Stdio out) = stdio_poll_flush out
output_poll_flush (Buffered it) = Pending
output_poll_flush other = Ready tt

abbrev pub after_output_poll_flush : OutStream → OutStream
after_output_poll_flush (Buffered it) = Buffered it
after_output_poll_flush other = after_output_flush other

-- a pollable of it is ready, where nothing is buffered always
abbrev pub output_is_ready : OutStream → Bool
output_is_ready (Buffered it) = is_ready_in it.turn (writer_is_ready it.stream)
output_is_ready other = true

-- .. and a block of it is the same, but that it asks for the turn
abbrev pub output_block : OutStream → Owner → Bool
output_block (Buffered it) who = block_in it.turn (writer_is_ready it.stream) who
output_block other who = true

abbrev pub after_output_block : OutStream → Owner → OutStream
after_output_block (Buffered it) who = Buffered (after_block it (writer_is_ready it.stream) who)
after_output_block other who = other

-- without the turns of one who leaves
abbrev pub output_without : Leaver → OutStream → OutStream
output_without who (Buffered it) = Buffered (without_leaver who it)
output_without who other = other

-- all that an output took and kept, or its sink
abbrev pub taken_of : OutStream → List ℕ
taken_of (Pipe pipe) = pipe.contents
taken_of (File out) = out.taken
taken_of (Stdio out) = out.taken
taken_of (Buffered it) = it.stream.sink.taken
taken_of other = []
