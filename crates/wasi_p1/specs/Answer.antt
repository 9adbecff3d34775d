-- What each call of preview 1 answers.
use Rattle.std.specs.Prelude.{ℕ}
use Rattle.wasi_base.specs.declared.trap_text.TrapText.{TrapText}
use Rattle.wasi_p1.specs.declared.call.Call.{Call}
use Rattle.wasi_p1.specs.declared.call.Call.TheVariants.{ArgsGet, ArgsSizesGet, EnvironGet, EnvironSizesGet, ClockResGet, ClockTimeGet, FdAdvise, FdAllocate, FdClose, FdDatasync, FdFdstatGet, FdFdstatSetFlags, FdFdstatSetRights, FdFilestatGet, FdFilestatSetSize, FdFilestatSetTimes, FdRead, FdPread, FdWrite, FdPwrite, FdPrestatGet, FdPrestatDirName, FdRenumber, FdSeek, FdSync, FdTell, FdReaddir, PathCreateDirectory, PathFilestatGet, PathFilestatSetTimes, PathLink, PathOpen, PathReadlink, PathRemoveDirectory, PathRename, PathSymlink, PathUnlinkFile, PollOneoff, ProcExit, ProcRaise, SchedYield, RandomGet}
use Rattle.wasi_p1_types.specs.declared.p1.Fdstat.{Fdstat}
use Rattle.wasi_p1_types.specs.declared.p1.Filestat.{Filestat}
use Rattle.wasi_p1_types.specs.declared.both.Prestat.{Prestat}

-- the kinds of answer; a size and a descriptor have 32 bits, a number has 64
pub data Kind : Type 0 where
  Nothing : Kind
  TwoSizes : Kind
  Size : Kind
  Number : Kind
  OfDescriptor : Kind
  OfFile : Kind
  OfGiven : Kind
  Reason : Kind

abbrev pub Value : Kind → Type 0
Value Nothing = Unit {0}
Value TwoSizes = ℕ × ℕ
Value Size = ℕ
Value Number = ℕ
Value OfDescriptor = Fdstat
Value OfFile = Filestat
Value OfGiven = Prestat
Value Reason = TrapText

abbrev pub kind_of : Call → Kind
kind_of (ArgsGet argv argv_buf) = Nothing
kind_of ArgsSizesGet = TwoSizes
kind_of (EnvironGet environ environ_buf) = Nothing
kind_of EnvironSizesGet = TwoSizes
kind_of (ClockResGet id) = Number
kind_of (ClockTimeGet id precision) = Number
kind_of (FdAdvise fd offset len advice) = Nothing
kind_of (FdAllocate fd offset len) = Nothing
kind_of (FdClose fd) = Nothing
kind_of (FdDatasync fd) = Nothing
kind_of (FdFdstatGet fd) = OfDescriptor
kind_of (FdFdstatSetFlags fd flags) = Nothing
kind_of (FdFdstatSetRights fd fs_rights_base fs_rights_inheriting) = Nothing
kind_of (FdFilestatGet fd) = OfFile
kind_of (FdFilestatSetSize fd size) = Nothing
kind_of (FdFilestatSetTimes fd atim mtim fst_flags) = Nothing
kind_of (FdRead fd iovs) = Size
kind_of (FdPread fd iovs offset) = Size
kind_of (FdWrite fd iovs) = Size
kind_of (FdPwrite fd iovs offset) = Size
kind_of (FdPrestatGet fd) = OfGiven
kind_of (FdPrestatDirName fd path path_max_len) = Nothing
kind_of (FdRenumber from to) = Nothing
kind_of (FdSeek fd offset whence) = Number
kind_of (FdSync fd) = Nothing
kind_of (FdTell fd) = Number
kind_of (FdReaddir fd buf buf_len cookie) = Size
kind_of (PathCreateDirectory fd path) = Nothing
kind_of (PathFilestatGet fd flags path) = OfFile
kind_of (PathFilestatSetTimes fd flags path atim mtim fst_flags) = Nothing
kind_of (PathLink fd flags path new_fd new_path) = Nothing
kind_of (PathOpen fd dirflags path oflags fs_rights_base fs_rights_inheriting fdflags) = Size
kind_of (PathReadlink fd path buf buf_len) = Size
kind_of (PathRemoveDirectory fd path) = Nothing
kind_of (PathRename fd path new_fd new_path) = Nothing
kind_of (PathSymlink old_path fd new_path) = Nothing
kind_of (PathUnlinkFile fd path) = Nothing
kind_of (PollOneoff subs events nsubscriptions) = Size
kind_of (ProcExit status) = Reason
kind_of (ProcRaise signal) = Nothing
kind_of SchedYield = Nothing
kind_of (RandomGet buf buf_len) = Nothing

abbrev pub Answer : Call → Type 0
Answer call = Value (kind_of call)
