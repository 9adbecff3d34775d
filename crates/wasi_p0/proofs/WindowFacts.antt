-- What slots stand in the memory after one was written.
use Rattle.std.proofs.Common.{◌≡◌, ℕ, ◌+◌, ◌-◌, ◌≤◌, List, length, take, drop, cond, sym, ap, ◌∙◌, arith, length-append, length-take, length-drop}
use Rattle.std.specs.Prelude.{nat_le, Err}
use Rattle.std.proofs.lemmas.List.{drop-take}
use Rattle.std.proofs.lemmas.Slice.{take-put_mid_below, drop-put_mid, between-put_mid}
use Rattle.wasi_p0.proofs.FieldFacts.{length-put}
use Rattle.wasi_p0.specs.Slot.{slot_in, with_slot, with_wait, clock_number, put, userdata_field}
use Rattle.wasi_p0.specs.Slots.{window, slot_at, overwritten}
use Rattle.wasi_p1_types.specs.declared.errno.Errno.TheVariants.{Fault}
use Rattle.wasi_p1_types.specs.declared.p1.Subscription as subscription1
use Rattle.wasi_p1_types.specs.declared.p1.SubscriptionU as subscriptionu1
use Rattle.wasi_p1_types.specs.declared.p1.SubscriptionU.TheVariants.{Clock, FdRead, FdWrite}

length-window : (place : ℕ) (memory : List ℕ) → place + 48 ≤ length memory → length (window place memory) ≡ 48
length-window place memory room = simp (length-take, length-drop) (omega arith)

length-with_wait : (wait : subscriptionu1.SubscriptionU) (slot : List ℕ) → length slot ≡ 48 → length (with_wait wait slot) ≡ 48
length-with_wait (Clock clock) slot whole =
    length-put 40 2 clock.flags.0 _ (omega arith)
    (length-put 32 8 clock.precision _ (omega arith)
    (length-put 24 8 clock.timeout _ (omega arith)
    (length-put 16 4 (clock_number clock.id) _ (omega arith) (length-put 8 1 0 slot (omega arith) whole))))
length-with_wait (FdRead wait) slot whole =
    length-put 16 4 wait.file_descriptor _ (omega arith) (length-put 8 1 1 slot (omega arith) whole)
length-with_wait (FdWrite wait) slot whole =
    length-put 16 4 wait.file_descriptor _ (omega arith) (length-put 8 1 2 slot (omega arith) whole)

pub length-with_slot : (slot : subscription1.Subscription) (bytes : List ℕ) → length bytes ≡ 48 → length (with_slot slot bytes) ≡ 48
length-with_slot slot bytes whole = length-with_wait slot.u (put userdata_field slot.userdata bytes) (length-put 0 8 slot.userdata bytes (omega arith) whole)

-- the memory keeps its length
pub length-overwritten : (place : ℕ) (slot : subscription1.Subscription) (memory : List ℕ) → place + 48 ≤ length memory → length (overwritten place slot memory) ≡ length memory
length-overwritten place slot memory room =
    let part = length-with_slot slot (window place memory) (length-window place memory room) in
    simp (length-append, length-take, length-drop) (omega (arith, part))

-- the slot's numbers stand in its place
pub window-overwritten : (place : ℕ) (slot : subscription1.Subscription) (memory : List ℕ) → place + 48 ≤ length memory → window place (overwritten place slot memory) ≡ with_slot slot (window place memory)
window-overwritten place slot memory room =
    let part = length-with_slot slot (window place memory) (length-window place memory room) in
    let sizes : place + 48 - place ≡ 48 = omega arith in
    sym (ap (λ (n : ℕ). take n (drop place (overwritten place slot memory))) sizes)
    ∙ between-put_mid place 48 memory (with_slot slot (window place memory)) (place + 48) (omega arith) (part ∙ sym sizes)

-- a slot before it is as it was
pub window-before : (place there : ℕ) (slot : subscription1.Subscription) (memory : List ℕ) → place + 48 ≤ there → there + 48 ≤ length memory → window place (overwritten there slot memory) ≡ window place memory
window-before place there slot memory before room =
    sym (drop-take place 48 (overwritten there slot memory))
    ∙ ap (λ (part : List ℕ). drop place part) (take-put_mid_below there 48 memory (with_slot slot (window there memory)) (place + 48) before (omega arith))
    ∙ drop-take place 48 memory

-- and so is one after it
pub window-after : (place there : ℕ) (slot : subscription1.Subscription) (memory : List ℕ) → there + 48 ≤ place → there + 48 ≤ length memory → window place (overwritten there slot memory) ≡ window place memory
window-after place there slot memory after room =
    let part = length-with_slot slot (window there memory) (length-window there memory room) in
    ap (λ (rest : List ℕ). take 48 rest) (drop-put_mid there 48 memory (with_slot slot (window there memory)) place after (omega arith) part)

-- the slot at a place depends on the bytes there and the memory's length alone
pub slot_at-window : (place : ℕ) (old new : List ℕ) → length new ≡ length old → window place new ≡ window place old → slot_at place new ≡ slot_at place old
slot_at-window place old new sizes same =
    ap (λ (n : ℕ). cond (nat_le (place + 48) n) (slot_in (window place new)) (Err Fault)) sizes
    ∙ ap (λ (bytes : List ℕ). cond (nat_le (place + 48) (length old)) (slot_in bytes) (Err Fault)) same
