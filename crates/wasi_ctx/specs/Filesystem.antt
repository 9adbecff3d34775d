-- The directories that a guest is given.
use Rattle.std.specs.Prelude.{Bool}
use Rattle.wasi_fs.specs.declared.descriptor.Dir.{Dir}
use Rattle.wasi_fs_types.specs.declared.descriptor.FsPerms.{FsPerms}
use Rattle.wasi_fs_types.specs.declared.descriptor.FsPerms.TheVariants as perms
use Rattle.wasi_fs_types.specs.declared.flags.OpenMode.{OpenMode}

-- to be read, and written too where the perms let that be
abbrev pub mode_for : FsPerms → OpenMode
mode_for perms.ReadOnly = record { 0 = 1 }
mode_for perms.ReadWrite = record { 0 = 3 }

abbrev pub given_dir : Dir → FsPerms → Bool → Dir
given_dir dir perms blocking = record dir { perms = perms; mode = mode_for perms; blocking = blocking }
