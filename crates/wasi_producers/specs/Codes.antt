-- The codes of standard streams: their words, and those of faults.
use Rattle.std.specs.Prelude.{ℕ, List, codes}
use Rattle.wasi_base.specs.declared.io_kind.IoKind.{IoKind}
use Rattle.wasi_base.specs.declared.io_kind.IoKind.TheVariants as kind
use Rattle.wasi_producers.specs.declared.results.CliErrorCode.{CliErrorCode}
use Rattle.wasi_producers.specs.declared.results.CliErrorCode.TheVariants as code

abbrev pub cli_code_name : CliErrorCode → List ℕ
cli_code_name code.Io = codes "io"
cli_code_name code.IllegalByteSequence = codes "illegal-byte-sequence"
cli_code_name code.Pipe = codes "pipe"

abbrev pub cli_code : IoKind → CliErrorCode
cli_code kind.BrokenPipe = code.Pipe
cli_code kind.NotFound = code.Io
cli_code kind.PermissionDenied = code.Io
cli_code kind.IsADirectory = code.Io
cli_code kind.WriteZero = code.Io
cli_code kind.Interrupted = code.Io
cli_code kind.InvalidData = code.Io
cli_code kind.Other = code.Io
