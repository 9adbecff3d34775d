-- What flags and a mode ask for.
use Rattle.std.specs.Prelude.{ℕ, Bool, not, ◌||◌, ◌==◌, cond}
use Rattle.std.specs.Int.RustNames.{bit_and, bit_or}
use Rattle.wasi_fs_types.specs.declared.descriptor.FsPerms.{FsPerms}
use Rattle.wasi_fs_types.specs.declared.descriptor.FsPerms.TheVariants as perms
use Rattle.wasi_fs_types.specs.declared.flags.DescriptorFlags.{DescriptorFlags}
use Rattle.wasi_fs_types.specs.declared.flags.OpenFlags.{OpenFlags}
use Rattle.wasi_fs_types.specs.declared.flags.OpenMode.{OpenMode}
use Rattle.wasi_fs_types.specs.declared.flags.PathFlags.{PathFlags}
use Rattle.std.specs.Prelude.{true, false}

abbrev pub has : ℕ → ℕ → Bool
has bits flag = bit_and bits flag == flag

-- a link is to be followed
abbrev pub follows : PathFlags → Bool
follows flags = has flags.0 1

-- HOW A PATH IS OPENED
abbrev pub creates : OpenFlags → Bool
creates how = has how.0 1

abbrev pub wants_directory : OpenFlags → Bool
wants_directory how = has how.0 2

abbrev pub is_exclusive : OpenFlags → Bool
is_exclusive how = has how.0 4

abbrev pub truncates : OpenFlags → Bool
truncates how = has how.0 8

-- WHAT A DESCRIPTOR IS OPENED FOR
abbrev pub wants_read : DescriptorFlags → Bool
wants_read flags = has flags.0 1

abbrev pub wants_write : DescriptorFlags → Bool
wants_write flags = has flags.0 2

-- each write to reach the disk, whole or its bytes alone, or each read to see such writes
abbrev pub wants_sync : DescriptorFlags → Bool
wants_sync flags = has flags.0 4 || has flags.0 8 || has flags.0 16

abbrev pub wants_to_mutate : DescriptorFlags → Bool
wants_to_mutate flags = has flags.0 32

-- WHAT AN OPEN FILE GIVES AND TAKES
abbrev pub may_read : OpenMode → Bool
may_read mode = has mode.0 1

abbrev pub may_write : OpenMode → Bool
may_write mode = has mode.0 2

-- it gives where that is asked, and where neither is; it takes where that is asked
abbrev pub mode_for : DescriptorFlags → OpenMode
mode_for flags = record { 0 = bit_or (cond (wants_read flags || not (wants_write flags)) 1 0) (cond (wants_write flags) 2 0) }

abbrev pub is_read_only : FsPerms → Bool
is_read_only perms.ReadOnly = true
is_read_only perms.ReadWrite = false

-- the flags of a file tell its mode
abbrev pub flags_of_mode : OpenMode → DescriptorFlags
flags_of_mode mode = record { 0 = bit_or (cond (may_read mode) 1 0) (cond (may_write mode) 2 0) }

-- a directory can be read, and changed where its perms say so
abbrev pub flags_of_perms : FsPerms → DescriptorFlags
flags_of_perms perms.ReadOnly = record { 0 = 1 }
flags_of_perms perms.ReadWrite = record { 0 = 33 }
