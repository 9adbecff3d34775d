-- Flags and records of the host as those of WASI 0.3 and back: by name, and field by field.
use Rattle.std.specs.Prelude.{option_map}
use Rattle.wasi_clocks.specs.Instants.{datetime_to_instant}
use Rattle.wasi_flags.specs.Flags.{named_bits}
use Rattle.wasi_fs_types.specs.Flags.{descriptor_flags_table, open_flags_table, path_flags_table}
use Rattle.wasi_fs_types.specs.Names.{p3_type}
use Rattle.wasi_fs_types.specs.declared.flags.DescriptorFlags as host_descriptor
use Rattle.wasi_fs_types.specs.declared.flags.OpenFlags as host_open
use Rattle.wasi_fs_types.specs.declared.flags.PathFlags as host_path
use Rattle.wasi_fs_types.specs.declared.p3.flags.DescriptorFlags as p3_descriptor
use Rattle.wasi_fs_types.specs.declared.p3.flags.OpenFlags as p3_open
use Rattle.wasi_fs_types.specs.declared.p3.flags.PathFlags as p3_path
use Rattle.wasi_fs_types.specs.declared.descriptor.DescriptorStat as host_stats
use Rattle.wasi_fs_types.specs.declared.descriptor.MetadataHashValue as host_hashes
use Rattle.wasi_fs_types.specs.declared.p3.DescriptorStat as p3_stats
use Rattle.wasi_fs_types.specs.declared.p3.MetadataHashValue as p3_hashes

-- the flags that have a name
abbrev pub p3_descriptor_flags : host_descriptor.DescriptorFlags → p3_descriptor.DescriptorFlags
p3_descriptor_flags flags = record { 0 = named_bits descriptor_flags_table flags.0 }

-- the flags that have a name
abbrev pub host_descriptor_flags : p3_descriptor.DescriptorFlags → host_descriptor.DescriptorFlags
host_descriptor_flags flags = record { 0 = named_bits descriptor_flags_table flags.0 }

-- the flags that have a name
abbrev pub host_open_flags : p3_open.OpenFlags → host_open.OpenFlags
host_open_flags flags = record { 0 = named_bits open_flags_table flags.0 }

-- the flags that have a name
abbrev pub host_path_flags : p3_path.PathFlags → host_path.PathFlags
host_path_flags flags = record { 0 = named_bits path_flags_table flags.0 }

abbrev pub p3_stat : host_stats.DescriptorStat → p3_stats.DescriptorStat
p3_stat stat = record {
  type_ = p3_type stat.type_;
  link_count = stat.link_count;
  size = stat.size;
  data_access_timestamp = option_map datetime_to_instant stat.data_access_timestamp;
  data_modification_timestamp = option_map datetime_to_instant stat.data_modification_timestamp;
  status_change_timestamp = option_map datetime_to_instant stat.status_change_timestamp;
}

abbrev pub p3_hash : host_hashes.MetadataHashValue → p3_hashes.MetadataHashValue
p3_hash hash = record { lower = hash.lower; upper = hash.upper }
