-- A slot of a poll: 48 bytes, in which each number stands with its lowest byte first. Both previews
-- lay a slot out alike.
use Rattle.std.specs.Prelude.{ℕ, ◌==◌, List, ◌++◌, take, drop, Option, Some, None, Result, Ok, Err, if◌then◌else◌}
use Rattle.byteorder.specs.Endian.{little_number, little_bytes}
use Rattle.wasi_flags.specs.Flags.{named_bits}
use Rattle.wasi_p1_types.specs.Flags.{subclockflags_table}
use Rattle.wasi_p1_types.specs.declared.both.Clockid.{Clockid}
use Rattle.wasi_p1_types.specs.declared.both.Clockid.TheVariants.{Realtime, Monotonic, ProcessCputimeId, ThreadCputimeId}
use Rattle.wasi_p1_types.specs.declared.errno.Errno.{Errno}
use Rattle.wasi_p1_types.specs.declared.errno.Errno.TheVariants.{Inval}
use Rattle.wasi_p1_types.specs.declared.p0.Subscription.{Subscription}
use Rattle.wasi_p1_types.specs.declared.p0.SubscriptionU.{SubscriptionU}
use Rattle.wasi_p1_types.specs.declared.p0.SubscriptionU.TheVariants.{Clock, FdRead, FdWrite}
use Rattle.wasi_p1_types.specs.declared.p0.flags.Subclockflags.{Subclockflags}
use Rattle.wasi_p1_types.specs.declared.p1.Subscription as subscription1
use Rattle.wasi_p1_types.specs.declared.p1.SubscriptionClock as subscriptionclock1
use Rattle.wasi_p1_types.specs.declared.p1.SubscriptionU as subscriptionu1
use Rattle.wasi_p1_types.specs.declared.p1.SubscriptionU.TheVariants as wait1

-- where a number stands in a slot, and in how many bytes
pub record Field : Type 0 where
  pub place : ℕ
  pub width : ℕ

abbrev pub userdata_field : Field
userdata_field = record { place = 0; width = 8 }

abbrev pub tag_field : Field
tag_field = record { place = 8; width = 1 }

abbrev pub clock_field : Field
clock_field = record { place = 16; width = 4 }

abbrev pub timeout_field : Field
timeout_field = record { place = 24; width = 8 }

abbrev pub precision_field : Field
precision_field = record { place = 32; width = 8 }

abbrev pub flags_field : Field
flags_field = record { place = 40; width = 2 }

abbrev pub descriptor_field : Field
descriptor_field = record { place = 16; width = 4 }

-- the number that stands there in a slot's bytes
abbrev pub number_at : Field → List ℕ → ℕ
number_at field slot = little_number field.width (drop field.place slot)

-- the slot's bytes with this number there
abbrev pub put : Field → ℕ → List ℕ → List ℕ
put field number slot =
    take field.place slot ++ (little_bytes field.width number ++ drop field.width (drop field.place slot))

abbrev pub clock_named : ℕ → Option Clockid
clock_named number =
    if number == 0 then Some Realtime
    else if number == 1 then Some Monotonic
    else if number == 2 then Some ProcessCputimeId
    else if number == 3 then Some ThreadCputimeId
    else None

abbrev pub clock_number : Clockid → ℕ
clock_number Realtime = 0
clock_number Monotonic = 1
clock_number ProcessCputimeId = 2
clock_number ThreadCputimeId = 3

abbrev pub known_flags : ℕ → Option Subclockflags
known_flags bits = if named_bits subclockflags_table bits == bits then Some (record { 0 = bits }) else None

abbrev pub clock_wait : Option Clockid → Option Subclockflags → ℕ → ℕ → Result SubscriptionU Errno
clock_wait (Some id) (Some flags) timeout precision =
    Ok (Clock (record { id = id; timeout = timeout; precision = precision; flags = flags }))
clock_wait id flags timeout precision = Err Inval

abbrev pub clock_in : List ℕ → Result SubscriptionU Errno
clock_in slot =
    clock_wait (clock_named (number_at clock_field slot)) (known_flags (number_at flags_field slot)) (number_at timeout_field slot) (number_at precision_field slot)

-- what the bytes of a slot wait for, by its tag
abbrev pub wait_in : List ℕ → Result SubscriptionU Errno
wait_in slot =
    if number_at tag_field slot == 0 then clock_in slot
    else if number_at tag_field slot == 1 then Ok (FdRead (record { file_descriptor = number_at descriptor_field slot }))
    else if number_at tag_field slot == 2 then Ok (FdWrite (record { file_descriptor = number_at descriptor_field slot }))
    else Err Inval

abbrev pub wait_for : ℕ → Result SubscriptionU Errno → Result Subscription Errno
wait_for userdata (Ok wait) = Ok (record { userdata = userdata; u = wait })
wait_for userdata (Err errno) = Err errno

-- the slot that these 48 bytes are
abbrev pub slot_in : List ℕ → Result Subscription Errno
slot_in slot = wait_for (number_at userdata_field slot) (wait_in slot)

abbrev pub with_clock : subscriptionclock1.SubscriptionClock → List ℕ → List ℕ
with_clock clock slot =
    put flags_field clock.flags.0
    (put precision_field clock.precision (put timeout_field clock.timeout (put clock_field (clock_number clock.id) slot)))

-- the bytes of a slot with this wait's numbers, each in its place, and no other byte changed
abbrev pub with_wait : subscriptionu1.SubscriptionU → List ℕ → List ℕ
with_wait (wait1.Clock clock) slot = with_clock clock (put tag_field 0 slot)
with_wait (wait1.FdRead wait) slot = put descriptor_field wait.file_descriptor (put tag_field 1 slot)
with_wait (wait1.FdWrite wait) slot = put descriptor_field wait.file_descriptor (put tag_field 2 slot)

abbrev pub with_slot : subscription1.Subscription → List ℕ → List ℕ
with_slot wait slot = with_wait wait.u (put userdata_field wait.userdata slot)
