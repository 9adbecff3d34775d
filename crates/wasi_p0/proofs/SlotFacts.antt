-- A slot in a part of the memory, as the code reads and writes it.
use Rattle.std.proofs.Common.{◌≡◌, ℕ, ◌+◌, ◌-◌, ◌≤◌, Bool, true, List, ◌++◌, length, take, drop, Result, Err, cond, sym, ap, ◌∙◌, arith}
use Rattle.std.specs.Prelude.{nat_le}
use Rattle.std.proofs.lemmas.Bool.{le-leb}
use Rattle.wasi_p0.specs.Slot.{slot_in, with_slot}
use Rattle.wasi_p0.specs.Slots.{window, slot_at, overwritten}
use Rattle.wasi_p1_types.specs.declared.errno.Errno.{Errno}
use Rattle.wasi_p1_types.specs.declared.errno.Errno.TheVariants.{Fault}
use Rattle.wasi_p1_types.specs.declared.p0.Subscription.{Subscription}
use Rattle.wasi_p1_types.specs.declared.p1.Subscription as subscription1
use borrow.Rule.Slice.PartMut.{put_mid}

-- the length of the part from a place to 48 past it
past : (place : ℕ) → place + 48 - place ≡ 48
past place = omega arith

-- what was read of that part is the slot there
pub slot_at-inside : (place : ℕ) (memory : List ℕ) (read : Result Subscription Errno) → place + 48 ≤ length memory → read ≡ slot_in (take (place + 48 - place) (drop place memory)) → read ≡ slot_at place memory
slot_at-inside place memory read inside is =
    let fits : nat_le (place + 48) (length memory) ≡ true = le-leb _ _ inside in
    is
    ∙ ap (λ (n : ℕ). slot_in (take n (drop place memory))) (past place)
    ∙ sym (ap (λ (b : Bool). cond b (slot_in (window place memory)) (Err Fault)) fits)

-- what was written over that part is the slot's numbers there
pub put_mid-slot : (place : ℕ) (slot : subscription1.Subscription) (memory new : List ℕ) → new ≡ with_slot slot (take (place + 48 - place) (drop place memory)) → put_mid place (place + 48 - place) memory new ≡ overwritten place slot memory
put_mid-slot place slot memory new is =
    ap (λ (part : List ℕ). put_mid place (place + 48 - place) memory part) is
    ∙ ap (λ (n : ℕ). take place memory ++ (with_slot slot (take n (drop place memory)) ++ drop n (drop place memory))) (past place)
