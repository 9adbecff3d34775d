-- What stands in the sources and the sinks of the system.
use Rattle.std.specs.Prelude.{ℕ, List, Option}
use Rattle.std.specs.Option.{option_and_then}
use Rattle.wasi_base.specs.declared.standard.FileSource.{FileSource}
use Rattle.wasi_base.specs.declared.standard.FileSink.{FileSink}
use Rattle.wasi_base.specs.declared.standard.StdSource.{StdSource}
use Rattle.wasi_base.specs.declared.standard.StdSink.{StdSink}

-- the bytes that reads will give from here on, where the reader tells them
abbrev pub reader_left : {R : Type 0} → (R → Option (List ℕ)) → StdSource R → Option (List ℕ)
reader_left remaining source = remaining source.reader

-- the bytes that the writer took, where it tells them
abbrev pub writer_took : {W : Type 0} → (W → Option (List ℕ)) → StdSink W → Option (List ℕ)
writer_took contents sink = contents sink.writer

-- the same of a file that is open (R is the runtime, F its files, D its directories)
abbrev pub file_left : {R F D : Type 0} → (F → Option (List ℕ)) → FileSource R F D → Option (List ℕ)
file_left remaining source = option_and_then remaining source.file

abbrev pub file_took : {R F D : Type 0} → (F → Option (List ℕ)) → FileSink R F D → Option (List ℕ)
file_took contents sink = option_and_then contents sink.file
