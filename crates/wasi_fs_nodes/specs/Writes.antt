-- THE WRITE RULE, of every store of files: what a write to one file comes to.
use Rattle.std.specs.Prelude.{ℕ, ◌+◌, ◌-◌, List, [], ◌∷◌, length, Option, Some, None, cond, ltb}
use Rattle.wasi_fs_types.specs.declared.error_code.ErrorCode.{ErrorCode}
use Rattle.wasi_fs_types.specs.declared.error_code.ErrorCode.TheVariants as code
use Rattle.wasi_fs_nodes.specs.Content.{written}
use Rattle.wasi_fs_nodes.specs.declared.at.At.{At}
use Rattle.wasi_fs_nodes.specs.declared.at.At.TheVariants as at

-- the most bytes of a file, and of all files ever made; and how many bytes those have now
pub record Limits : Type 0 where
  pub file : ℕ
  pub all : ℕ
  pub total : ℕ

-- the limit that a file of a size would pass when it grows to an end; that of one file counts first
abbrev pub passed : Option Limits → ℕ → ℕ → Option ErrorCode
passed None size end = None
passed (Some limits) size end =
    cond (ltb limits.file end) (Some code.FileTooLarge)
    (cond (ltb limits.all (limits.total + (end - size))) (Some code.InsufficientSpace)
    None)

-- the place in a file of this size where a write begins, its first byte standing at the least offset
abbrev pub place_in : ℕ → ℕ → At → ℕ
place_in least size at.End = size
place_in least size (at.Offset offset) = offset - least

-- WHAT A WRITE COMES TO
pub data Write : Type 0 where
  -- the store meets a fault; the nodes of a tree by themselves meet none
  Fault : ErrorCode → Write
  -- a limit would be passed
  Refusal : ErrorCode → Write
  -- there is no byte to write
  Nothing : Write
  -- the file's bytes after it
  Bytes : List ℕ → Write

abbrev pub bytes_unless : Option ErrorCode → List ℕ → Write
bytes_unless (Some code) bytes = Refusal code
bytes_unless None bytes = Bytes bytes

abbrev pub written_from : Option Limits → List ℕ → ℕ → List ℕ → Write
written_from limits bytes place more = bytes_unless (passed limits (length bytes) (place + length more)) (written bytes place more)

-- more bytes over a file's from a place on; with none of them no limit counts
abbrev pub write_from : Option Limits → List ℕ → ℕ → List ℕ → Write
write_from limits bytes place [] = Nothing
write_from limits bytes place (b ∷ more) = written_from limits bytes place (b ∷ more)
