-- The data of a reparse point: a link or a mount point, and the name that it leads to.
use Rattle.std.specs.Prelude.{ℕ, ◌+◌, ◌*◌, ◌%◌, Bool, not, ◌&&◌, ◌||◌, ◌==◌, Option, Some, None, Result, Ok, Err, List, [], ◌∷◌, length, drop, codes, if◌then◌else◌, nat_lt, nat_eq, slice_index, slice_range}
use Rattle.std.specs.List.{starts_with}
use Rattle.wasi_winrules.specs.Flags.{has_flag}
use Rattle.wasi_winrules.specs.Numbers.{io_reparse_tag_symlink, io_reparse_tag_mount_point, symlink_flag_relative}
use Rattle.wasi_winrules.specs.declared.reparse.ReparseError.{ReparseError}
use Rattle.wasi_winrules.specs.declared.reparse.ReparseError.TheVariants.{Malformed, Unsupported, OutOfMemory}

-- numbers, their low byte first
abbrev pub u16_at : List ℕ → ℕ → ℕ
u16_at bytes place = slice_index bytes place + slice_index bytes (place + 1) * 256

abbrev pub u32_at : List ℕ → ℕ → ℕ
u32_at bytes place = u16_at bytes place + u16_at bytes (place + 2) * 65536

-- the units of a name
abbrev pub units_in : List ℕ → List ℕ
units_in (low ∷ high ∷ more) = (low + high * 256) ∷ units_in more
units_in (low ∷ []) = []
units_in [] = []

-- a name outside of its directory begins with this, which is not shown
abbrev pub nt_prefix : List ℕ
nt_prefix = codes "\\??\\"

abbrev pub shown : Bool → List ℕ → List ℕ
shown relative name = if not relative && starts_with nat_eq name nt_prefix then drop 4 name else name

-- where the names of a record with this tag begin
abbrev pub names_begin : ℕ → Option ℕ
names_begin tag =
    if tag == io_reparse_tag_symlink then Some 20
    else (if tag == io_reparse_tag_mount_point then Some 16
    else None)

-- a link says whether its name is relative; that of a mount point never is
abbrev pub is_relative : List ℕ → Bool
is_relative bytes = u32_at bytes 0 == io_reparse_tag_symlink && has_flag (u32_at bytes 16) symlink_flag_relative

-- from where to where the name stands
abbrev pub name_start : List ℕ → ℕ → ℕ
name_start bytes begin = begin + u16_at bytes 8

abbrev pub name_end : List ℕ → ℕ → ℕ
name_end bytes begin = name_start bytes begin + u16_at bytes 10

abbrev pub is_odd : ℕ → Bool
is_odd n = not (n % 2 == 0)

-- the names begin past the bytes, or the name ends there, or one of its ends is odd
abbrev pub is_misplaced : List ℕ → ℕ → Bool
is_misplaced bytes begin = nat_lt (length bytes) begin || (nat_lt (length bytes) (name_end bytes begin) || (is_odd (name_start bytes begin) || is_odd (name_end bytes begin)))

abbrev pub name_at : Option ℕ → List ℕ → Result (List ℕ) ReparseError
name_at None bytes = Err Unsupported
name_at (Some begin) bytes =
    if is_misplaced bytes begin then Err Malformed
    else Ok (shown (is_relative bytes) (units_in (slice_range bytes (name_start bytes begin) (name_end bytes begin))))

-- the name in a record, or why there is none
abbrev pub name_in : List ℕ → Result (List ℕ) ReparseError
name_in bytes = if nat_lt (length bytes) 8 then Err Malformed else name_at (names_begin (u32_at bytes 0)) bytes

abbrev pub reparse_error_text : ReparseError → List ℕ
reparse_error_text Malformed = codes "malformed reparse point data"
reparse_error_text Unsupported = codes "Unsupported reparse point type"
reparse_error_text OutOfMemory = codes "out of memory"
