-- Flags and records of one preview as those of the other: by name, and field by field.
use Rattle.std.specs.Prelude.{min}
use Rattle.wasi_flags.specs.Flags.{named_bits}
use Rattle.wasi_p1_types.specs.Flags.{fdflags_table, rights_table, lookupflags_table, fstflags_table, oflags_table, subclockflags_table}
use Rattle.wasi_p1_types.specs.declared.p0.flags.Fdflags as fdflags0
use Rattle.wasi_p1_types.specs.declared.p1.flags.Fdflags as fdflags1
use Rattle.wasi_p1_types.specs.declared.p0.flags.Rights as rights0
use Rattle.wasi_p1_types.specs.declared.p1.flags.Rights as rights1
use Rattle.wasi_p1_types.specs.declared.p0.flags.Lookupflags as lookupflags0
use Rattle.wasi_p1_types.specs.declared.p1.flags.Lookupflags as lookupflags1
use Rattle.wasi_p1_types.specs.declared.p0.flags.Fstflags as fstflags0
use Rattle.wasi_p1_types.specs.declared.p1.flags.Fstflags as fstflags1
use Rattle.wasi_p1_types.specs.declared.p0.flags.Oflags as oflags0
use Rattle.wasi_p1_types.specs.declared.p1.flags.Oflags as oflags1
use Rattle.wasi_p1_types.specs.declared.p0.flags.Subclockflags as subclockflags0
use Rattle.wasi_p1_types.specs.declared.p1.flags.Subclockflags as subclockflags1
use Rattle.wasi_p1_types.specs.declared.p0.Fdstat as fdstat0
use Rattle.wasi_p1_types.specs.declared.p1.Fdstat as fdstat1
use Rattle.wasi_p1_types.specs.declared.p0.Filestat as filestat0
use Rattle.wasi_p1_types.specs.declared.p1.Filestat as filestat1
use Rattle.wasi_p1_types.specs.declared.p0.SubscriptionClock as subscriptionclock0
use Rattle.wasi_p1_types.specs.declared.p1.SubscriptionClock as subscriptionclock1
use Rattle.wasi_p1_types.specs.declared.p0.SubscriptionU as subscriptionu0
use Rattle.wasi_p1_types.specs.declared.p1.SubscriptionU as subscriptionu1
use Rattle.wasi_p1_types.specs.declared.p0.Subscription as subscription0
use Rattle.wasi_p1_types.specs.declared.p1.Subscription as subscription1
use Rattle.wasi_p1_types.specs.declared.p0.SubscriptionU.TheVariants as wait0
use Rattle.wasi_p1_types.specs.declared.p1.SubscriptionU.TheVariants as wait1

-- the flags that have a name
abbrev pub p1_fdflags : fdflags0.Fdflags → fdflags1.Fdflags
p1_fdflags flags = record { 0 = named_bits fdflags_table flags.0 }

-- the flags that have a name
abbrev pub p0_fdflags : fdflags1.Fdflags → fdflags0.Fdflags
p0_fdflags flags = record { 0 = named_bits fdflags_table flags.0 }

-- the flags that have a name
abbrev pub p1_rights : rights0.Rights → rights1.Rights
p1_rights flags = record { 0 = named_bits rights_table flags.0 }

-- the flags that have a name
abbrev pub p0_rights : rights1.Rights → rights0.Rights
p0_rights flags = record { 0 = named_bits rights_table flags.0 }

-- the flags that have a name
abbrev pub p1_lookupflags : lookupflags0.Lookupflags → lookupflags1.Lookupflags
p1_lookupflags flags = record { 0 = named_bits lookupflags_table flags.0 }

-- the flags that have a name
abbrev pub p1_fstflags : fstflags0.Fstflags → fstflags1.Fstflags
p1_fstflags flags = record { 0 = named_bits fstflags_table flags.0 }

-- the flags that have a name
abbrev pub p1_oflags : oflags0.Oflags → oflags1.Oflags
p1_oflags flags = record { 0 = named_bits oflags_table flags.0 }

-- the flags that have a name
abbrev pub p1_subclockflags : subclockflags0.Subclockflags → subclockflags1.Subclockflags
p1_subclockflags flags = record { 0 = named_bits subclockflags_table flags.0 }

abbrev pub p0_fdstat : fdstat1.Fdstat → fdstat0.Fdstat
p0_fdstat stat = record {
  fs_filetype = stat.fs_filetype;
  fs_flags = p0_fdflags stat.fs_flags;
  fs_rights_base = p0_rights stat.fs_rights_base;
  fs_rights_inheriting = p0_rights stat.fs_rights_inheriting;
}

-- preview 0 counts no more than 4294967295 names
abbrev pub p0_filestat : filestat1.Filestat → filestat0.Filestat
p0_filestat stat = record {
  dev = stat.dev;
  ino = stat.ino;
  filetype = stat.filetype;
  nlink = min stat.nlink 4294967295;
  size = stat.size;
  atim = stat.atim;
  mtim = stat.mtim;
  ctim = stat.ctim;
}

abbrev pub p1_subscription_clock : subscriptionclock0.SubscriptionClock → subscriptionclock1.SubscriptionClock
p1_subscription_clock clock = record {
  id = clock.id;
  timeout = clock.timeout;
  precision = clock.precision;
  flags = p1_subclockflags clock.flags;
}

abbrev pub p1_subscription_u : subscriptionu0.SubscriptionU → subscriptionu1.SubscriptionU
p1_subscription_u (wait0.Clock clock) = wait1.Clock (p1_subscription_clock clock)
p1_subscription_u (wait0.FdRead wait) = wait1.FdRead wait
p1_subscription_u (wait0.FdWrite wait) = wait1.FdWrite wait

abbrev pub p1_subscription : subscription0.Subscription → subscription1.Subscription
p1_subscription wait = record { userdata = wait.userdata; u = p1_subscription_u wait.u }
