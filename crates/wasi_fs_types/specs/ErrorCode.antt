-- Codes: their words, and those of planned faults.
use Rattle.std.specs.Prelude.{ℕ, List, codes}
use Rattle.wasi_fs_types.specs.declared.error_code.ErrorCode.{ErrorCode}
use Rattle.wasi_fs_types.specs.declared.error_code.ErrorCode.TheVariants as code
use Rattle.wasi_base.specs.declared.io_kind.IoKind.{IoKind}
use Rattle.wasi_base.specs.declared.io_kind.IoKind.TheVariants as kind

abbrev pub code_name : ErrorCode → List ℕ
code_name code.Access = codes "access"
code_name code.Already = codes "already"
code_name code.BadDescriptor = codes "bad-descriptor"
code_name code.Busy = codes "busy"
code_name code.Exist = codes "exist"
code_name code.FileTooLarge = codes "file-too-large"
code_name code.IllegalByteSequence = codes "illegal-byte-sequence"
code_name code.InProgress = codes "in-progress"
code_name code.Interrupted = codes "interrupted"
code_name code.Invalid = codes "invalid"
code_name code.Io = codes "io"
code_name code.IsDirectory = codes "is-directory"
code_name code.Loop = codes "loop"
code_name code.TooManyLinks = codes "too-many-links"
code_name code.NameTooLong = codes "name-too-long"
code_name code.NoEntry = codes "no-entry"
code_name code.InsufficientMemory = codes "insufficient-memory"
code_name code.InsufficientSpace = codes "insufficient-space"
code_name code.NotDirectory = codes "not-directory"
code_name code.NotEmpty = codes "not-empty"
code_name code.Unsupported = codes "unsupported"
code_name code.Overflow = codes "overflow"
code_name code.NotPermitted = codes "not-permitted"
code_name code.Pipe = codes "pipe"
code_name code.InvalidSeek = codes "invalid-seek"

-- the code that a call answers where a fault of this kind was planned
abbrev pub code_of_kind : IoKind → ErrorCode
code_of_kind kind.BrokenPipe = code.Pipe
code_of_kind kind.NotFound = code.NoEntry
code_of_kind kind.PermissionDenied = code.Access
code_of_kind kind.IsADirectory = code.IsDirectory
code_of_kind kind.WriteZero = code.Io
code_of_kind kind.Interrupted = code.Interrupted
code_of_kind kind.InvalidData = code.Io
code_of_kind kind.Other = code.Io
