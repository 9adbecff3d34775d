-- Each name of one type as the same name of the other.
use Rattle.std.specs.Prelude.{None}
use Rattle.wasi_fs_types.specs.declared.error_code.ErrorCode as host_codes
use Rattle.wasi_fs_types.specs.declared.error_code.ErrorCode.TheVariants as code
use Rattle.wasi_fs_types.specs.declared.p3.ErrorCode as p3_codes
use Rattle.wasi_fs_types.specs.declared.p3.ErrorCode.TheVariants as code3
use Rattle.wasi_fs_types.specs.declared.descriptor.Advice as host_advices
use Rattle.wasi_fs_types.specs.declared.descriptor.Advice.TheVariants as advice
use Rattle.wasi_fs_types.specs.declared.p3.Advice as p3_advices
use Rattle.wasi_fs_types.specs.declared.p3.Advice.TheVariants as advice3
use Rattle.wasi_fs_types.specs.declared.descriptor.DescriptorType as host_types
use Rattle.wasi_fs_types.specs.declared.descriptor.DescriptorType.TheVariants as type
use Rattle.wasi_fs_types.specs.declared.p3.DescriptorType as p3_types
use Rattle.wasi_fs_types.specs.declared.p3.DescriptorType.TheVariants as type3

abbrev pub p3_code : host_codes.ErrorCode → p3_codes.ErrorCode
p3_code code.Access = code3.Access
p3_code code.Already = code3.Already
p3_code code.BadDescriptor = code3.BadDescriptor
p3_code code.Busy = code3.Busy
p3_code code.Exist = code3.Exist
p3_code code.FileTooLarge = code3.FileTooLarge
p3_code code.IllegalByteSequence = code3.IllegalByteSequence
p3_code code.InProgress = code3.InProgress
p3_code code.Interrupted = code3.Interrupted
p3_code code.Invalid = code3.Invalid
p3_code code.Io = code3.Io
p3_code code.IsDirectory = code3.IsDirectory
p3_code code.Loop = code3.Loop
p3_code code.TooManyLinks = code3.TooManyLinks
p3_code code.NameTooLong = code3.NameTooLong
p3_code code.NoEntry = code3.NoEntry
p3_code code.InsufficientMemory = code3.InsufficientMemory
p3_code code.InsufficientSpace = code3.InsufficientSpace
p3_code code.NotDirectory = code3.NotDirectory
p3_code code.NotEmpty = code3.NotEmpty
p3_code code.Unsupported = code3.Unsupported
p3_code code.Overflow = code3.Overflow
p3_code code.NotPermitted = code3.NotPermitted
p3_code code.Pipe = code3.Pipe
p3_code code.InvalidSeek = code3.InvalidSeek

abbrev pub host_advice : p3_advices.Advice → host_advices.Advice
host_advice advice3.Normal = advice.Normal
host_advice advice3.Sequential = advice.Sequential
host_advice advice3.Random = advice.Random
host_advice advice3.WillNeed = advice.WillNeed
host_advice advice3.DontNeed = advice.DontNeed
host_advice advice3.NoReuse = advice.NoReuse

-- a type that is not known is another one without a word for it
abbrev pub p3_type : host_types.DescriptorType → p3_types.DescriptorType
p3_type type.Unknown = type3.Other None
p3_type type.BlockDevice = type3.BlockDevice
p3_type type.CharacterDevice = type3.CharacterDevice
p3_type type.Directory = type3.Directory
p3_type type.SymbolicLink = type3.SymbolicLink
p3_type type.RegularFile = type3.RegularFile
