-- The flags, dispositions, options and error numbers of the rules. They are this project's own choice.
use Rattle.std.specs.Prelude.{ℕ}

-- ---- what is asked of a file

abbrev pub generic_read : ℕ
generic_read = 0x8000_0000

abbrev pub generic_write : ℕ
generic_write = 0x4000_0000

abbrev pub generic_all : ℕ
generic_all = 0x1000_0000

abbrev pub delete : ℕ
delete = 0x1_0000

abbrev pub synchronize : ℕ
synchronize = 0x10_0000

abbrev pub file_read_attributes : ℕ
file_read_attributes = 0x80

abbrev pub file_write_data : ℕ
file_write_data = 0x2

abbrev pub file_generic_write : ℕ
file_generic_write = 0x12_0116

-- ---- what others may do to it meanwhile

abbrev pub file_share_read : ℕ
file_share_read = 0x1

abbrev pub file_share_write : ℕ
file_share_write = 0x2

abbrev pub file_share_delete : ℕ
file_share_delete = 0x4

-- ---- what to do where it is there, and where it is not: as asked, and as passed on

abbrev pub create_new : ℕ
create_new = 1

abbrev pub create_always : ℕ
create_always = 2

abbrev pub open_existing : ℕ
open_existing = 3

abbrev pub open_always : ℕ
open_always = 4

abbrev pub truncate_existing : ℕ
truncate_existing = 5

abbrev pub file_open : ℕ
file_open = 1

abbrev pub file_create : ℕ
file_create = 2

abbrev pub file_open_if : ℕ
file_open_if = 3

abbrev pub file_overwrite : ℕ
file_overwrite = 4

abbrev pub file_overwrite_if : ℕ
file_overwrite_if = 5

-- ---- how it is opened, as asked

abbrev pub file_flag_write_through : ℕ
file_flag_write_through = 0x8000_0000

abbrev pub file_flag_overlapped : ℕ
file_flag_overlapped = 0x4000_0000

abbrev pub file_flag_no_buffering : ℕ
file_flag_no_buffering = 0x2000_0000

abbrev pub file_flag_random_access : ℕ
file_flag_random_access = 0x1000_0000

abbrev pub file_flag_sequential_scan : ℕ
file_flag_sequential_scan = 0x800_0000

abbrev pub file_flag_delete_on_close : ℕ
file_flag_delete_on_close = 0x400_0000

abbrev pub file_flag_backup_semantics : ℕ
file_flag_backup_semantics = 0x200_0000

abbrev pub file_flag_posix_semantics : ℕ
file_flag_posix_semantics = 0x100_0000

abbrev pub file_flag_session_aware : ℕ
file_flag_session_aware = 0x80_0000

abbrev pub file_flag_open_reparse_point : ℕ
file_flag_open_reparse_point = 0x20_0000

abbrev pub file_flag_open_no_recall : ℕ
file_flag_open_no_recall = 0x10_0000

abbrev pub security_sqos_present : ℕ
security_sqos_present = 0x10_0000

abbrev pub security_context_tracking : ℕ
security_context_tracking = 0x4_0000

abbrev pub security_effective_only : ℕ
security_effective_only = 0x8_0000

-- ---- attributes: the one of a file with no other, and all of them

abbrev pub file_attribute_normal : ℕ
file_attribute_normal = 0x80

abbrev pub file_attribute_valid_flags : ℕ
file_attribute_valid_flags = 0x5f_fff7

-- ---- how it is opened, as passed on

abbrev pub file_write_through : ℕ
file_write_through = 0x2

abbrev pub file_sequential_only : ℕ
file_sequential_only = 0x4

abbrev pub file_no_intermediate_buffering : ℕ
file_no_intermediate_buffering = 0x8

abbrev pub file_synchronous_io_nonalert : ℕ
file_synchronous_io_nonalert = 0x20

abbrev pub file_non_directory_file : ℕ
file_non_directory_file = 0x40

abbrev pub file_open_remote_instance : ℕ
file_open_remote_instance = 0x400

abbrev pub file_random_access : ℕ
file_random_access = 0x800

abbrev pub file_delete_on_close : ℕ
file_delete_on_close = 0x1000

abbrev pub file_open_for_backup_intent : ℕ
file_open_for_backup_intent = 0x4000

abbrev pub file_open_reparse_point : ℕ
file_open_reparse_point = 0x20_0000

abbrev pub file_open_no_recall : ℕ
file_open_no_recall = 0x40_0000

abbrev pub obj_inherit : ℕ
obj_inherit = 0x2

abbrev pub obj_case_insensitive : ℕ
obj_case_insensitive = 0x40

-- ---- what a reparse point is, and the flag of a link whose name is relative

abbrev pub io_reparse_tag_symlink : ℕ
io_reparse_tag_symlink = 0xa000_000c

abbrev pub io_reparse_tag_mount_point : ℕ
io_reparse_tag_mount_point = 0xa000_0003

abbrev pub symlink_flag_relative : ℕ
symlink_flag_relative = 0x1

-- ---- refusals

abbrev pub error_not_supported : ℕ
error_not_supported = 50

abbrev pub error_invalid_parameter : ℕ
error_invalid_parameter = 87

abbrev pub error_invalid_name : ℕ
error_invalid_name = 123
