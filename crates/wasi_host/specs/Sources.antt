-- What is seen of a stream with a task over a source or a sink in memory: what that tells, and the rest of the stream.
use Rattle.wasi_base.specs.Source.{Told}
use Rattle.wasi_base.specs.Memory.{SourceMemory, SinkMemory}
use Rattle.wasi_streams.specs.Outputs.{Outlet}
use Rattle.wasi_streams.specs.Reader.{Reader}
use Rattle.wasi_streams.specs.Writer.{Writer}

abbrev pub told_reader : Reader SourceMemory → Reader Told
told_reader r = record { source = r.source.told; channel = r.channel; kept = r.kept; ended = r.ended; closed = r.closed }

abbrev pub told_writer : Writer SinkMemory → Writer Outlet
told_writer w = record { sink = record { taken = w.sink.taken; limits = w.sink.limits }; budget = w.budget; buffered = w.buffered; flushing = w.flushing; trouble = w.trouble }
