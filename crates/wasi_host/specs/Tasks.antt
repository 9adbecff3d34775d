-- A turn of a stream's task, at no call of a guest: what it tells, and what it leaves of the stream.
use Rattle.std.specs.Prelude.{ℕ, if◌then◌else◌, List, length, Some}
use Rattle.wasi_base.specs.Source.{Told, Given, gives, told_after}
use Rattle.wasi_base.specs.Sink.{written, after_write, flushed}
use Rattle.wasi_streams.specs.declared.reader_turn.ReaderTurn.{ReaderTurn}
use Rattle.wasi_streams.specs.declared.reader_turn.ReaderTurn.TheVariants as reader
use Rattle.wasi_streams.specs.declared.writer_turn.WriterTurn.{WriterTurn}
use Rattle.wasi_streams.specs.declared.writer_turn.WriterTurn.TheVariants as writer
use Rattle.wasi_streams.specs.Outputs.{Outlet, taken_with, after_flushed}
use Rattle.wasi_streams.specs.Reader.{Reader, reader_is_idle, turn_of, closes}
use Rattle.wasi_streams.specs.Writer.{Writer, Work, Nothing_left, Writing, Flushing, work_of, turn_written, written_left, turn_flushed, flushed_left}
use Rattle.wasi_reply.specs.declared.reply.Worked.{Worked}
use Rattle.wasi_reply.specs.declared.reply.Worked.TheVariants as worked
use Rattle.wasi_host.specs.declared.stream.InStream.{InStream}
use Rattle.wasi_host.specs.declared.stream.InStream.TheVariants as in_stream
use Rattle.wasi_host.specs.declared.stream.OutStream.{OutStream}
use Rattle.wasi_host.specs.declared.stream.OutStream.TheVariants as out_stream

pub record Turned (S : Type 0) : Type 0 where
  pub told : Worked
  pub left : S

abbrev pub turned : {S : Type 0} → Worked → S → Turned S
turned told left = record { told = told; left = left }

-- ---- a reader task: one read of its source goes into the channel, where that is empty and the task goes on
abbrev pub read_told : ReaderTurn → Worked
read_told (reader.Gave count) = worked.Gave count
read_told reader.End = worked.End
read_told (reader.Fault kind) = worked.Fault kind
read_told reader.Idle = worked.Idle

abbrev pub with_item : Reader Told → Given → Told → Reader Told
with_item r given source = record { source = source; channel = Some given; kept = r.kept; ended = closes (Some given); closed = r.closed }

abbrev pub reader_turned : Reader Told → Turned (Reader Told)
reader_turned r = if reader_is_idle r then turned worked.Idle r else turned (read_told (turn_of (gives r.source 65536))) (with_item r (gives r.source 65536) (told_after r.source 65536))

-- ---- a writer task: one write of all that is buffered, or else the flush that is pending
abbrev pub write_told : WriterTurn → Worked
write_told (writer.Took count) = worked.Took count
write_told writer.Flushed = worked.Flushed
write_told (writer.Fault kind) = worked.Fault kind
write_told writer.Idle = worked.Idle

abbrev pub after_written : Outlet → List ℕ → Outlet
after_written out bytes = record { taken = taken_with out.taken bytes (written out.limits (length bytes)); limits = after_write out.limits (length bytes) }

abbrev pub turned_by : Work → Writer Outlet → Turned (Writer Outlet)
turned_by Nothing_left w = turned worked.Idle w
turned_by Writing w = let part = written w.sink.limits (length w.buffered) in turned (write_told (turn_written part)) (written_left part w (after_written w.sink w.buffered))
turned_by Flushing w = let flush = flushed w.sink.limits in turned (write_told (turn_flushed flush)) (flushed_left flush w (after_flushed w.sink))

abbrev pub writer_turned : Writer Outlet → Turned (Writer Outlet)
writer_turned w = turned_by (work_of w) w

-- ---- of any stream; one that has no task has nothing to do
abbrev pub input_turned : InStream → Turned InStream
input_turned (in_stream.Async it) = turned (reader_turned it.stream).told (in_stream.Async (record it { stream = (reader_turned it.stream).left }))
input_turned other = turned worked.Idle other

abbrev pub output_turned : OutStream → Turned OutStream
output_turned (out_stream.Buffered it) = turned (writer_turned it.stream).told (out_stream.Buffered (record it { stream = (writer_turned it.stream).left }))
output_turned other = turned worked.Idle other
