-- A slot that was read reads the same after it was written over any 48 bytes.
use Rattle.std.proofs.Common.{◌≡◌, ℕ, zero, suc, ◌+◌, ◌^◌, ◌<◌, Bool, true, false, List, [], ◌∷◌, length, take, drop, get_or, Option, Some, None, Result, Ok, Err, cond, sym, ap, ◌∙◌, subst, refl, arith, get_or-drop, eq-eqb, eqb-true}
use Rattle.std.specs.Prelude.{◌==◌}
use Rattle.byteorder.specs.Numbers.{little_from-lt}
use Rattle.wasi_p0.proofs.FieldFacts.{length-put, number_at-put, number_at-before}
use Rattle.wasi_p0.specs.Slot.{number_at, put, userdata_field, tag_field, clock_field, timeout_field, precision_field, flags_field, descriptor_field, clock_named, clock_number, known_flags, clock_wait, wait_for, slot_in, with_slot}
use Rattle.wasi_flags.specs.Flags.{named_bits}
use Rattle.wasi_p1_types.specs.Flags.{subclockflags_table}
use Rattle.wasi_p1_types.specs.Records.{p1_subscription}
use Rattle.wasi_p1_types.specs.declared.both.Clockid.{Clockid}
use Rattle.wasi_p1_types.specs.declared.both.Clockid.TheVariants.{Realtime, Monotonic, ProcessCputimeId, ThreadCputimeId}
use Rattle.wasi_p1_types.specs.declared.errno.Errno.{Errno}
use Rattle.wasi_p1_types.specs.declared.errno.Errno.TheVariants.{Inval}
use Rattle.wasi_p1_types.specs.declared.p0.Subscription.{Subscription}
use Rattle.wasi_p1_types.specs.declared.p0.SubscriptionU.{SubscriptionU}
use Rattle.wasi_p1_types.specs.declared.p0.SubscriptionU.TheVariants.{Clock, FdRead, FdWrite}
use Rattle.wasi_p1_types.specs.declared.p0.flags.Subclockflags.{Subclockflags}

-- each byte is below 256
abbrev pub AreBytes : List ℕ → Type 0
AreBytes bytes = (k : ℕ) → get_or bytes k 0 < 256

pub bytes-take : (n : ℕ) (bytes : List ℕ) → AreBytes bytes → AreBytes (take n bytes)
bytes-take zero bytes small k = omega arith
bytes-take (suc n) [] small k = omega arith
bytes-take (suc n) (byte ∷ bytes) small zero = small zero
bytes-take (suc n) (byte ∷ bytes) small (suc k) = bytes-take n bytes (λ j. small (suc j)) k

pub bytes-drop : (n : ℕ) (bytes : List ℕ) → AreBytes bytes → AreBytes (drop n bytes)
bytes-drop n bytes small k =
    let P : ℕ → Type 0 = λ byte. byte < 256 in subst P (sym (get_or-drop n bytes k 0)) (small (n + k))

-- a slot by its numbers
abbrev told : ℕ → ℕ → ℕ → ℕ → ℕ → ℕ → ℕ → Result Subscription Errno
told userdata tag clock timeout precision flags descriptor =
    wait_for userdata
    (cond (tag == 0) (clock_wait (clock_named clock) (known_flags flags) timeout precision)
    (cond (tag == 1) (Ok (FdRead (record { file_descriptor = descriptor })))
    (cond (tag == 2) (Ok (FdWrite (record { file_descriptor = descriptor }))) (Err Inval))))

-- the numbers of a wait fit their fields, and its flags have names
abbrev IsWait : SubscriptionU → Type 0
IsWait (Clock clock) =
    (clock.timeout < 256 ^ 8) × (clock.precision < 256 ^ 8) × (clock.flags.0 < 256 ^ 2) × (named_bits subclockflags_table clock.flags.0 ≡ clock.flags.0)
IsWait (FdRead wait) = wait.file_descriptor < 256 ^ 4
IsWait (FdWrite wait) = wait.file_descriptor < 256 ^ 4

abbrev IsSlot : Subscription → Type 0
IsSlot slot = (slot.userdata < 256 ^ 8) × IsWait slot.u

-- flags that were known have names
known : (test : Bool) (bits : ℕ) (flags : Subclockflags) → (test ≡ true → named_bits subclockflags_table bits ≡ bits) → bits < 256 ^ 2 → cond test (Some (record { 0 = bits })) None ≡ Some flags → (flags.0 < 256 ^ 2) × (named_bits subclockflags_table flags.0 ≡ flags.0)
known true bits flags names small is =
    let same : bits ≡ flags.0 = ap (λ (o : Option Subclockflags). elim o as (λ _. ℕ) [ None ↦ 0 | Some f ↦ f.0 ]) is in
    let P : ℕ → Type 0 = λ n. (n < 256 ^ 2) × (named_bits subclockflags_table n ≡ n) in
    subst P same (small, names refl)
known false bits flags names small is = cc

by_tests : (clock_test read_test write_test : Bool) (userdata timeout precision descriptor : ℕ) (id : Option Clockid) (flags : Option Subclockflags) (slot : Subscription) → userdata < 256 ^ 8 → timeout < 256 ^ 8 → precision < 256 ^ 8 → descriptor < 256 ^ 4 → ((f : Subclockflags) → flags ≡ Some f → (f.0 < 256 ^ 2) × (named_bits subclockflags_table f.0 ≡ f.0)) → wait_for userdata (cond clock_test (clock_wait id flags timeout precision) (cond read_test (Ok (FdRead (record { file_descriptor = descriptor }))) (cond write_test (Ok (FdWrite (record { file_descriptor = descriptor }))) (Err Inval)))) ≡ Ok slot → IsSlot slot
by_tests true read_test write_test userdata timeout precision descriptor (Some id) (Some flags) slot u t p d f is =
    let named = f flags refl in
    let same : record { userdata = userdata; u = Clock (record { id = id; timeout = timeout; precision = precision; flags = flags }) } ≡ slot = cc in
    let P : Subscription → Type 0 = λ s. IsSlot s in
    subst P same (u, (t, p, named.0, named.1))
by_tests true read_test write_test userdata timeout precision descriptor (Some id) None slot u t p d f is = cc
by_tests true read_test write_test userdata timeout precision descriptor None flags slot u t p d f is = cc
by_tests false true write_test userdata timeout precision descriptor id flags slot u t p d f is =
    let same : record { userdata = userdata; u = FdRead (record { file_descriptor = descriptor }) } ≡ slot = cc in
    let P : Subscription → Type 0 = λ s. IsSlot s in
    subst P same (u, d)
by_tests false false true userdata timeout precision descriptor id flags slot u t p d f is =
    let same : record { userdata = userdata; u = FdWrite (record { file_descriptor = descriptor }) } ≡ slot = cc in
    let P : Subscription → Type 0 = λ s. IsSlot s in
    subst P same (u, d)
by_tests false false false userdata timeout precision descriptor id flags slot u t p d f is = cc

-- what was read of bytes is a slot
slot-fits : (bytes : List ℕ) (slot : Subscription) → AreBytes bytes → slot_in bytes ≡ Ok slot → IsSlot slot
slot-fits bytes slot small is =
    by_tests (number_at tag_field bytes == 0) (number_at tag_field bytes == 1) (number_at tag_field bytes == 2)
    (number_at userdata_field bytes) (number_at timeout_field bytes) (number_at precision_field bytes) (number_at descriptor_field bytes)
    (clock_named (number_at clock_field bytes)) (known_flags (number_at flags_field bytes)) slot
    (little_from-lt 0 8 (drop 0 bytes) (bytes-drop 0 bytes small))
    (little_from-lt 0 8 (drop 24 bytes) (bytes-drop 24 bytes small))
    (little_from-lt 0 8 (drop 32 bytes) (bytes-drop 32 bytes small))
    (little_from-lt 0 4 (drop 16 bytes) (bytes-drop 16 bytes small))
    (λ f. known (named_bits subclockflags_table (number_at flags_field bytes) == number_at flags_field bytes) (number_at flags_field bytes) f (eqb-true _ _) (little_from-lt 0 2 (drop 40 bytes) (bytes-drop 40 bytes small)))
    is

clock_named-number : (id : Clockid) → clock_named (clock_number id) ≡ Some id
clock_named-number Realtime = refl
clock_named-number Monotonic = refl
clock_named-number ProcessCputimeId = refl
clock_named-number ThreadCputimeId = refl

known_flags-named : (flags : Subclockflags) → named_bits subclockflags_table flags.0 ≡ flags.0 → known_flags (named_bits subclockflags_table flags.0) ≡ Some flags
known_flags-named flags names =
    ap (λ (bits : ℕ). known_flags bits) names ∙ ap (λ (test : Bool). cond test (Some flags) None) (eq-eqb _ _ names)

-- a clock's slot by its numbers
clock-told : (bytes : List ℕ) (userdata clock timeout precision flags : ℕ) → number_at userdata_field bytes ≡ userdata → number_at tag_field bytes ≡ 0 → number_at clock_field bytes ≡ clock → number_at timeout_field bytes ≡ timeout → number_at precision_field bytes ≡ precision → number_at flags_field bytes ≡ flags → slot_in bytes ≡ wait_for userdata (clock_wait (clock_named clock) (known_flags flags) timeout precision)
clock-told bytes userdata clock timeout precision flags u g k t p f =
    ap (λ (n : ℕ). told n (number_at tag_field bytes) (number_at clock_field bytes) (number_at timeout_field bytes) (number_at precision_field bytes) (number_at flags_field bytes) (number_at descriptor_field bytes)) u
    ∙ ap (λ (n : ℕ). told userdata n (number_at clock_field bytes) (number_at timeout_field bytes) (number_at precision_field bytes) (number_at flags_field bytes) (number_at descriptor_field bytes)) g
    ∙ ap (λ (n : ℕ). told userdata 0 n (number_at timeout_field bytes) (number_at precision_field bytes) (number_at flags_field bytes) (number_at descriptor_field bytes)) k
    ∙ ap (λ (n : ℕ). told userdata 0 clock n (number_at precision_field bytes) (number_at flags_field bytes) (number_at descriptor_field bytes)) t
    ∙ ap (λ (n : ℕ). told userdata 0 clock timeout n (number_at flags_field bytes) (number_at descriptor_field bytes)) p
    ∙ ap (λ (n : ℕ). told userdata 0 clock timeout precision n (number_at descriptor_field bytes)) f

-- a descriptor's slot by its numbers
descriptor-told : (bytes : List ℕ) (userdata tag descriptor : ℕ) → number_at userdata_field bytes ≡ userdata → number_at tag_field bytes ≡ tag → number_at descriptor_field bytes ≡ descriptor → slot_in bytes ≡ told userdata tag (number_at clock_field bytes) (number_at timeout_field bytes) (number_at precision_field bytes) (number_at flags_field bytes) descriptor
descriptor-told bytes userdata tag descriptor u g d =
    ap (λ (n : ℕ). told n (number_at tag_field bytes) (number_at clock_field bytes) (number_at timeout_field bytes) (number_at precision_field bytes) (number_at flags_field bytes) (number_at descriptor_field bytes)) u
    ∙ ap (λ (n : ℕ). told userdata n (number_at clock_field bytes) (number_at timeout_field bytes) (number_at precision_field bytes) (number_at flags_field bytes) (number_at descriptor_field bytes)) g
    ∙ ap (λ (n : ℕ). told userdata tag (number_at clock_field bytes) (number_at timeout_field bytes) (number_at precision_field bytes) (number_at flags_field bytes) n) d

-- the three fields of a descriptor's slot that was written
descriptor-back : (tag userdata descriptor : ℕ) (bytes : List ℕ) → tag < 256 ^ 1 → userdata < 256 ^ 8 → descriptor < 256 ^ 4 → length bytes ≡ 48 → slot_in (put descriptor_field descriptor (put tag_field tag (put userdata_field userdata bytes))) ≡ told userdata tag (number_at clock_field (put descriptor_field descriptor (put tag_field tag (put userdata_field userdata bytes)))) (number_at timeout_field (put descriptor_field descriptor (put tag_field tag (put userdata_field userdata bytes)))) (number_at precision_field (put descriptor_field descriptor (put tag_field tag (put userdata_field userdata bytes)))) (number_at flags_field (put descriptor_field descriptor (put tag_field tag (put userdata_field userdata bytes)))) descriptor
descriptor-back tag userdata descriptor bytes g u d whole =
    let first = put userdata_field userdata bytes in
    let whole1 = length-put 0 8 userdata bytes (omega arith) whole in
    let second = put tag_field tag first in
    let whole2 = length-put 8 1 tag first (omega arith) whole1 in
    descriptor-told (put descriptor_field descriptor second) userdata tag descriptor
    (number_at-before 0 8 16 4 descriptor second (omega arith) (omega arith) whole2
    ∙ number_at-before 0 8 8 1 tag first (omega arith) (omega arith) whole1
    ∙ number_at-put 0 8 userdata bytes (omega arith) whole u)
    (number_at-before 8 1 16 4 descriptor second (omega arith) (omega arith) whole2 ∙ number_at-put 8 1 tag first (omega arith) whole1 g)
    (number_at-put 16 4 descriptor second (omega arith) whole2 d)

clock_small : (id : Clockid) → clock_number id < 256 ^ 4
clock_small Realtime = omega arith
clock_small Monotonic = omega arith
clock_small ProcessCputimeId = omega arith
clock_small ThreadCputimeId = omega arith

-- the six fields of a clock's slot that was written
clock-back : (userdata clock timeout precision flags : ℕ) (bytes : List ℕ) → userdata < 256 ^ 8 → clock < 256 ^ 4 → timeout < 256 ^ 8 → precision < 256 ^ 8 → flags < 256 ^ 2 → length bytes ≡ 48 → slot_in (put flags_field flags (put precision_field precision (put timeout_field timeout (put clock_field clock (put tag_field 0 (put userdata_field userdata bytes)))))) ≡ wait_for userdata (clock_wait (clock_named clock) (known_flags flags) timeout precision)
clock-back userdata clock timeout precision flags bytes u k t p f whole =
    let s1 = put userdata_field userdata bytes in
    let h1 = length-put 0 8 userdata bytes (omega arith) whole in
    let s2 = put tag_field 0 s1 in
    let h2 = length-put 8 1 0 s1 (omega arith) h1 in
    let s3 = put clock_field clock s2 in
    let h3 = length-put 16 4 clock s2 (omega arith) h2 in
    let s4 = put timeout_field timeout s3 in
    let h4 = length-put 24 8 timeout s3 (omega arith) h3 in
    let s5 = put precision_field precision s4 in
    let h5 = length-put 32 8 precision s4 (omega arith) h4 in
    clock-told (put flags_field flags s5) userdata clock timeout precision flags
    (number_at-before 0 8 40 2 flags s5 (omega arith) (omega arith) h5
    ∙ number_at-before 0 8 32 8 precision s4 (omega arith) (omega arith) h4
    ∙ number_at-before 0 8 24 8 timeout s3 (omega arith) (omega arith) h3
    ∙ number_at-before 0 8 16 4 clock s2 (omega arith) (omega arith) h2
    ∙ number_at-before 0 8 8 1 0 s1 (omega arith) (omega arith) h1
    ∙ number_at-put 0 8 userdata bytes (omega arith) whole u)
    (number_at-before 8 1 40 2 flags s5 (omega arith) (omega arith) h5
    ∙ number_at-before 8 1 32 8 precision s4 (omega arith) (omega arith) h4
    ∙ number_at-before 8 1 24 8 timeout s3 (omega arith) (omega arith) h3
    ∙ number_at-before 8 1 16 4 clock s2 (omega arith) (omega arith) h2
    ∙ number_at-put 8 1 0 s1 (omega arith) h1 (omega arith))
    (number_at-before 16 4 40 2 flags s5 (omega arith) (omega arith) h5
    ∙ number_at-before 16 4 32 8 precision s4 (omega arith) (omega arith) h4
    ∙ number_at-before 16 4 24 8 timeout s3 (omega arith) (omega arith) h3
    ∙ number_at-put 16 4 clock s2 (omega arith) h2 k)
    (number_at-before 24 8 40 2 flags s5 (omega arith) (omega arith) h5
    ∙ number_at-before 24 8 32 8 precision s4 (omega arith) (omega arith) h4
    ∙ number_at-put 24 8 timeout s3 (omega arith) h3 t)
    (number_at-before 32 8 40 2 flags s5 (omega arith) (omega arith) h5 ∙ number_at-put 32 8 precision s4 (omega arith) h4 p)
    (number_at-put 40 2 flags s5 (omega arith) h5 f)

by_wait : (userdata : ℕ) (wait : SubscriptionU) (bytes : List ℕ) → userdata < 256 ^ 8 → IsWait wait → length bytes ≡ 48 → slot_in (with_slot (p1_subscription (record { userdata = userdata; u = wait })) bytes) ≡ Ok (record { userdata = userdata; u = wait })
by_wait userdata (Clock clock) bytes u fits whole =
    let small : named_bits subclockflags_table clock.flags.0 < 256 ^ 2 = (let P : ℕ → Type 0 = λ n. n < 256 ^ 2 in subst P (sym fits.3) fits.2) in
    clock-back userdata (clock_number clock.id) clock.timeout clock.precision (named_bits subclockflags_table clock.flags.0) bytes u (clock_small clock.id) fits.0 fits.1 small whole
    ∙ ap (λ (id : Option Clockid). wait_for userdata (clock_wait id (known_flags (named_bits subclockflags_table clock.flags.0)) clock.timeout clock.precision)) (clock_named-number clock.id)
    ∙ ap (λ (flags : Option Subclockflags). wait_for userdata (clock_wait (Some clock.id) flags clock.timeout clock.precision)) (known_flags-named clock.flags fits.3)
by_wait userdata (FdRead wait) bytes u fits whole = descriptor-back 1 userdata wait.file_descriptor bytes (omega arith) u fits whole
by_wait userdata (FdWrite wait) bytes u fits whole = descriptor-back 2 userdata wait.file_descriptor bytes (omega arith) u fits whole

pub reads_back : (slot : Subscription) (old bytes : List ℕ) → AreBytes old → slot_in old ≡ Ok slot → length bytes ≡ 48 → slot_in (with_slot (p1_subscription slot) bytes) ≡ Ok slot
reads_back slot old bytes small is whole =
    let fits = slot-fits old slot small is in by_wait slot.userdata slot.u bytes fits.0 fits.1 whole
