-- The flags of both previews, by name: their bits go from 0 up.
use Rattle.std.specs.Prelude.{List, [], ◌∷◌, codes}
use Rattle.bitflags.specs.Sets.{Row}
use Rattle.wasi_flags.specs.Flags.{doubling}

abbrev pub fdflags_table : List Row
fdflags_table =
    doubling 1
    (codes "APPEND" ∷ codes "DSYNC" ∷ codes "NONBLOCK" ∷ codes "RSYNC" ∷ codes "SYNC" ∷ [])

abbrev pub rights_table : List Row
rights_table =
    doubling 1
    (codes "FD_DATASYNC" ∷ codes "FD_READ" ∷ codes "FD_SEEK" ∷ codes "FD_FDSTAT_SET_FLAGS" ∷ codes "FD_SYNC" ∷ codes "FD_TELL" ∷ codes "FD_WRITE" ∷ codes "FD_ADVISE" ∷ codes "FD_ALLOCATE" ∷ codes "PATH_CREATE_DIRECTORY" ∷ codes "PATH_CREATE_FILE" ∷ codes "PATH_LINK_SOURCE" ∷ codes "PATH_LINK_TARGET" ∷ codes "PATH_OPEN" ∷ codes "FD_READDIR" ∷ codes "PATH_READLINK" ∷ codes "PATH_RENAME_SOURCE" ∷ codes "PATH_RENAME_TARGET" ∷ codes "PATH_FILESTAT_GET" ∷ codes "PATH_FILESTAT_SET_SIZE" ∷ codes "PATH_FILESTAT_SET_TIMES" ∷ codes "FD_FILESTAT_GET" ∷ codes "FD_FILESTAT_SET_SIZE" ∷ codes "FD_FILESTAT_SET_TIMES" ∷ codes "PATH_SYMLINK" ∷ codes "PATH_REMOVE_DIRECTORY" ∷ codes "PATH_UNLINK_FILE" ∷ codes "POLL_FD_READWRITE" ∷ codes "SOCK_SHUTDOWN" ∷ [])

abbrev pub lookupflags_table : List Row
lookupflags_table =
    doubling 1
    (codes "SYMLINK_FOLLOW" ∷ [])

abbrev pub fstflags_table : List Row
fstflags_table =
    doubling 1
    (codes "ATIM" ∷ codes "ATIM_NOW" ∷ codes "MTIM" ∷ codes "MTIM_NOW" ∷ [])

abbrev pub oflags_table : List Row
oflags_table =
    doubling 1
    (codes "CREAT" ∷ codes "DIRECTORY" ∷ codes "EXCL" ∷ codes "TRUNC" ∷ [])

abbrev pub subclockflags_table : List Row
subclockflags_table =
    doubling 1
    (codes "SUBSCRIPTION_CLOCK_ABSTIME" ∷ [])
