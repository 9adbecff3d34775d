-- The access that options ask for.
use Rattle.std.specs.Prelude.{ℕ, ◌||◌, Option, Some, None, Result, Ok, Err, bit_or, if◌then◌else◌}
use Rattle.wasi_winrules.specs.Flags.{flag_if, without}
use Rattle.wasi_winrules.specs.Numbers.{generic_read, generic_write, file_generic_write, file_write_data, error_invalid_parameter}
use Rattle.wasi_winrules.specs.declared.options.OpenOptions.{OpenOptions}

-- all that writing asks, but for writing anywhere than at the end
abbrev pub append_access : ℕ
append_access = without file_generic_write file_write_data

-- what `read`, `write` and `append` ask
abbrev pub plain_access_of : OpenOptions → Result ℕ ℕ
plain_access_of o =
    if o.append then Ok (bit_or (flag_if o.read generic_read) append_access)
    else (if o.read || o.write then Ok (bit_or (flag_if o.read generic_read) (flag_if o.write generic_write))
    else Err error_invalid_parameter)

-- an access mode that is set counts alone
abbrev pub set_or_plain : Option ℕ → Result ℕ ℕ → Result ℕ ℕ
set_or_plain (Some mode) plain = Ok mode
set_or_plain None plain = plain

abbrev pub access_mode_of : OpenOptions → Result ℕ ℕ
access_mode_of o = set_or_plain o.access_mode (plain_access_of o)
