-- What is done where the file is there, and where it is not.
use Rattle.std.specs.Prelude.{ℕ, Bool, not, ◌&&◌, ◌||◌, Result, Ok, Err, if◌then◌else◌}
use Rattle.wasi_winrules.specs.Numbers.{create_new, create_always, open_always, truncate_existing, open_existing, error_invalid_parameter}
use Rattle.wasi_winrules.specs.declared.options.OpenOptions.{OpenOptions}

-- it is to be emptied or made, and not to be written
abbrev pub changes_unwritten : OpenOptions → Bool
changes_unwritten o = (o.truncate || (o.create || o.create_new)) && not (o.write || o.append)

-- what may be there is to be emptied, and written at its end alone
abbrev pub empties_appended : OpenOptions → Bool
empties_appended o = (o.truncate && o.append) && not o.create_new

abbrev pub disposition_of : OpenOptions → ℕ
disposition_of o =
    if o.create_new then create_new
    else (if o.create && o.truncate then create_always
    else (if o.create then open_always
    else (if o.truncate then truncate_existing
    else open_existing)))

abbrev pub creation_mode_of : OpenOptions → Result ℕ ℕ
creation_mode_of o = if changes_unwritten o || empties_appended o then Err error_invalid_parameter else Ok (disposition_of o)
