-- The flags of the host and of WASI 0.3, by name: their bits go from 0 up.
use Rattle.std.specs.Prelude.{List, [], ◌∷◌, codes}
use Rattle.bitflags.specs.Sets.{Row}
use Rattle.wasi_flags.specs.Flags.{doubling}

abbrev pub open_flags_table : List Row
open_flags_table = doubling 1 (codes "CREATE" ∷ codes "DIRECTORY" ∷ codes "EXCLUSIVE" ∷ codes "TRUNCATE" ∷ [])

abbrev pub path_flags_table : List Row
path_flags_table = doubling 1 (codes "SYMLINK_FOLLOW" ∷ [])

abbrev pub descriptor_flags_table : List Row
descriptor_flags_table = doubling 1 (codes "READ" ∷ codes "WRITE" ∷ codes "FILE_INTEGRITY_SYNC" ∷ codes "DATA_INTEGRITY_SYNC" ∷ codes "REQUESTED_WRITE_SYNC" ∷ codes "MUTATE_DIRECTORY" ∷ [])

abbrev pub open_mode_table : List Row
open_mode_table = doubling 1 (codes "READ" ∷ codes "WRITE" ∷ [])
