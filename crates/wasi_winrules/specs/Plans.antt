-- The words with which a file is opened below a directory. Each is said by itself.
use Rattle.std.specs.Prelude.{ℕ, ◌*◌, ◌/◌, ◌%◌, ◌^◌, Bool, not, ◌||◌, ◌==◌, Option, Some, None, Result, Ok, Err, List, length, bit_and, bit_or, if◌then◌else◌, nat_lt}
use Rattle.wasi_winrules.specs.Flags.{has_flag, flag_if}
use Rattle.wasi_winrules.specs.Numbers.{generic_read, generic_write, generic_all, delete, synchronize, file_read_attributes, create_new, create_always, open_existing, open_always, truncate_existing, file_open, file_create, file_open_if, file_overwrite, file_overwrite_if, file_flag_write_through, file_flag_overlapped, file_flag_no_buffering, file_flag_random_access, file_flag_sequential_scan, file_flag_delete_on_close, file_flag_backup_semantics, file_flag_posix_semantics, file_flag_session_aware, file_flag_open_reparse_point, file_flag_open_no_recall, security_sqos_present, security_context_tracking, security_effective_only, file_attribute_normal, file_attribute_valid_flags, file_write_through, file_sequential_only, file_no_intermediate_buffering, file_synchronous_io_nonalert, file_non_directory_file, file_open_remote_instance, file_random_access, file_delete_on_close, file_open_for_backup_intent, file_open_reparse_point, file_open_no_recall, obj_inherit, obj_case_insensitive, error_not_supported, error_invalid_parameter, error_invalid_name}
use Rattle.wasi_winrules.specs.declared.plan.CreatePlan.{CreatePlan}
use Rattle.wasi_winrules.specs.declared.plan.Qos.{Qos}

abbrev pub desired_access_of : ℕ → ℕ → ℕ
desired_access_of desired flags =
    bit_or (bit_or (bit_or desired synchronize) file_read_attributes) (flag_if (has_flag flags file_flag_delete_on_close) delete)

abbrev pub object_attributes_of : Bool → ℕ → ℕ
object_attributes_of inherit flags =
    bit_or (flag_if (has_flag flags file_flag_posix_semantics) obj_case_insensitive) (flag_if inherit obj_inherit)

-- a file with no attribute is a normal one
abbrev pub file_attributes_of : ℕ → ℕ
file_attributes_of flags =
    let valid = bit_and flags file_attribute_valid_flags in
    if valid == 0 then file_attribute_normal else valid

-- what a disposition is passed on as
abbrev pub passed_disposition : ℕ → Option ℕ
passed_disposition disposition =
    if disposition == create_new then Some file_create
    else (if disposition == create_always then Some file_overwrite_if
    else (if disposition == open_existing then Some file_open
    else (if disposition == open_always then Some file_open_if
    else (if disposition == truncate_existing then Some file_overwrite
    else None))))

-- a file that may be a directory is opened with the intents of its backup
abbrev pub backup_options_of : ℕ → ℕ
backup_options_of desired = bit_or
    (flag_if (has_flag desired generic_all || has_flag desired generic_read) file_open_for_backup_intent)
    (flag_if (has_flag desired generic_all || has_flag desired generic_write) file_open_remote_instance)

-- a flag that has an option of its own
abbrev pub named_options_of : ℕ → ℕ
named_options_of flags = bit_or (bit_or (bit_or (bit_or (bit_or (bit_or
    (flag_if (has_flag flags file_flag_delete_on_close) file_delete_on_close)
    (flag_if (has_flag flags file_flag_no_buffering) file_no_intermediate_buffering))
    (flag_if (has_flag flags file_flag_open_no_recall) file_open_no_recall))
    (flag_if (has_flag flags file_flag_open_reparse_point) file_open_reparse_point))
    (flag_if (has_flag flags file_flag_random_access) file_random_access))
    (flag_if (has_flag flags file_flag_sequential_scan) file_sequential_only))
    (flag_if (has_flag flags file_flag_write_through) file_write_through)

abbrev pub create_options_of : ℕ → ℕ → ℕ
create_options_of desired flags = bit_or (bit_or
    (if has_flag flags file_flag_backup_semantics then backup_options_of desired else file_non_directory_file)
    (flag_if (not (has_flag flags file_flag_overlapped)) file_synchronous_io_nonalert))
    (named_options_of flags)

-- how far a server may act for the caller; its level is bits 16 and 17
abbrev pub qos_of : ℕ → Option Qos
qos_of flags =
    if has_flag flags security_sqos_present
    then Some (record {
      impersonation = flags / 2 ^ 16 % 4;
      dynamic = has_flag flags security_context_tracking;
      effective_only = has_flag flags security_effective_only;
    })
    else None

-- the name's length in bytes
abbrev pub byte_length : List ℕ → ℕ
byte_length name = 2 * length name

abbrev pub plan_with : List ℕ → ℕ → ℕ → Bool → ℕ → ℕ → CreatePlan
plan_with name desired share inherit create_disposition flags = record {
  desired_access = desired_access_of desired flags;
  object_attributes = object_attributes_of inherit flags;
  file_attributes = file_attributes_of flags;
  share_mode = share;
  create_disposition = create_disposition;
  create_options = create_options_of desired flags;
  length = byte_length name;
  qos = qos_of flags;
}

-- what comes of a disposition that is passed on, and of another
abbrev pub plan_for : Option ℕ → List ℕ → ℕ → ℕ → Bool → ℕ → Result CreatePlan ℕ
plan_for None name desired share inherit flags = Err error_invalid_parameter
plan_for (Some passed) name desired share inherit flags =
    if nat_lt 65535 (byte_length name) then Err error_invalid_name
    else (if has_flag flags file_flag_session_aware then Err error_not_supported
    else Ok (plan_with name desired share inherit passed flags))

abbrev pub plan_of : List ℕ → ℕ → ℕ → Bool → ℕ → ℕ → Bool → Result CreatePlan ℕ
plan_of name desired share inherit disposition flags template =
    if template then Err error_not_supported
    else plan_for (passed_disposition disposition) name desired share inherit flags
