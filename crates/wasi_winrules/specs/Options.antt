-- How a file is to be opened.
use Rattle.std.specs.Prelude.{ℕ, Bool, true, false, not, ◌&&◌, ◌||◌, None, bit_or, if◌then◌else◌}
use Rattle.wasi_winrules.specs.Flags.{flag_if, without}
use Rattle.wasi_winrules.specs.Numbers.{file_share_read, file_share_write, file_share_delete, file_flag_backup_semantics, file_flag_open_reparse_point, file_flag_write_through}
use Rattle.wasi_winrules.specs.declared.options.OpenOptions.{OpenOptions}
use Rattle.wasi_winrules.specs.declared.options.FollowSymlinks.{FollowSymlinks}
use Rattle.wasi_winrules.specs.declared.options.FollowSymlinks.TheVariants.{Yes, No}

abbrev pub new_options : OpenOptions
new_options = record {
  read = false;
  write = false;
  append = false;
  truncate = false;
  create = false;
  create_new = false;
  dir_required = false;
  maybe_dir = false;
  sync = false;
  dsync = false;
  follow = Yes;
  access_mode = None;
  share_mode = bit_or (bit_or file_share_read file_share_write) file_share_delete;
  custom_flags = 0;
  attributes = 0;
  security_qos_flags = 0;
}

abbrev pub options_for_directories : OpenOptions
options_for_directories = record new_options {
  read = true;
  dir_required = true;
  custom_flags = file_flag_backup_semantics;
  share_mode = bit_or file_share_read file_share_write;
}

-- a link is opened itself and not followed
abbrev pub opens_link : FollowSymlinks → Bool
opens_link Yes = false
opens_link No = true

abbrev pub flags_and_attributes_of : OpenOptions → ℕ
flags_and_attributes_of o = bit_or (bit_or (bit_or o.custom_flags o.attributes) o.security_qos_flags) (flag_if o.create_new file_flag_open_reparse_point)

-- a link that is opened to be written and emptied, and neither appended to nor made: its target is emptied once it is open
abbrev pub truncates_after_opening : OpenOptions → Bool
truncates_after_opening o = opens_link o.follow && (o.write && o.truncate) && not (o.append || o.create_new)

abbrev pub flags_to_open : OpenOptions → ℕ
flags_to_open o = bit_or (bit_or (bit_or o.custom_flags
    (flag_if (opens_link o.follow) file_flag_open_reparse_point))
    (flag_if o.maybe_dir file_flag_backup_semantics))
    (flag_if (o.sync || o.dsync) file_flag_write_through)

-- what may turn out to be a directory is not to be deleted or renamed meanwhile
abbrev pub share_mode_to_open : OpenOptions → ℕ
share_mode_to_open o = if o.maybe_dir then without o.share_mode file_share_delete else o.share_mode

abbrev pub prepared : OpenOptions → OpenOptions
prepared o = record o {
  truncate = o.truncate && not (truncates_after_opening o);
  custom_flags = flags_to_open o;
  share_mode = share_mode_to_open o;
}

abbrev pub with_maybe_dir : OpenOptions → OpenOptions
with_maybe_dir o = record o { custom_flags = file_flag_backup_semantics; share_mode = bit_or file_share_read file_share_write }
