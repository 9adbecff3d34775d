-- A fault as a stream tells it.
use Rattle.wasi_base.specs.declared.io_kind.IoKind.{IoKind}
use Rattle.wasi_base.specs.declared.io_kind.IoKind.TheVariants.{BrokenPipe, NotFound, PermissionDenied, IsADirectory, WriteZero, Interrupted, InvalidData, Other}
use Rattle.wasi_base.specs.declared.stream_error.StreamError.{StreamError}
use Rattle.wasi_base.specs.declared.stream_error.StreamError.TheVariants.{Closed, LastOperationFailed}

-- a broken pipe is the stream's end
abbrev pub stream_error_of : IoKind → StreamError
stream_error_of BrokenPipe = Closed
stream_error_of NotFound = LastOperationFailed NotFound
stream_error_of PermissionDenied = LastOperationFailed PermissionDenied
stream_error_of IsADirectory = LastOperationFailed IsADirectory
stream_error_of WriteZero = LastOperationFailed WriteZero
stream_error_of Interrupted = LastOperationFailed Interrupted
stream_error_of InvalidData = LastOperationFailed InvalidData
stream_error_of Other = LastOperationFailed Other
