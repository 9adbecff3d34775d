-- The slots of a poll in a guest's memory, one after the other.
use Rattle.std.specs.Prelude.{ℕ, zero, suc, ◌+◌, ◌*◌, nat_le, List, [], ◌∷◌, ◌++◌, length, take, drop, Result, Ok, Err, if◌then◌else◌}
use Rattle.wasi_p0.specs.Slot.{slot_in, with_slot}
use Rattle.wasi_p1_types.specs.Records.{p1_subscription}
use Rattle.wasi_p1_types.specs.declared.errno.Errno.{Errno}
use Rattle.wasi_p1_types.specs.declared.errno.Errno.TheVariants.{Fault}
use Rattle.wasi_p1_types.specs.declared.p0.Subscription.{Subscription}
use Rattle.wasi_p1_types.specs.declared.p1.Subscription as subscription1

-- the 48 bytes from a place on
abbrev pub window : ℕ → List ℕ → List ℕ
window place memory = take 48 (drop place memory)

-- the slot that stands there
abbrev pub slot_at : ℕ → List ℕ → Result Subscription Errno
slot_at place memory = if nat_le (place + 48) (length memory) then slot_in (window place memory) else Err Fault

-- the memory with a slot's numbers there
abbrev pub overwritten : ℕ → subscription1.Subscription → List ℕ → List ℕ
overwritten place slot memory =
    take place memory ++ (with_slot slot (window place memory) ++ drop 48 (drop place memory))

-- slots so far, or what was wrong with the first that is none, and the memory
pub record Rewriting : Type 0 where
  pub kept : Result (List Subscription) Errno
  pub memory : List ℕ

abbrev pub one_more : ℕ → List Subscription → List ℕ → Result Subscription Errno → Rewriting
one_more place slots memory (Ok slot) =
    record { kept = Ok (slots ++ slot ∷ []); memory = overwritten place (p1_subscription slot) memory }
one_more place slots memory (Err errno) = record { kept = Err errno; memory = memory }

abbrev pub and_then_one : ℕ → Result (List Subscription) Errno → List ℕ → Rewriting
and_then_one place (Ok slots) memory = one_more place slots memory (slot_at place memory)
and_then_one place (Err errno) memory = record { kept = Err errno; memory = memory }

-- the first n slots are read in order, kept, and each written as preview 1 has it in its place
abbrev pub rewriting : ℕ → ℕ → List ℕ → Rewriting
rewriting place zero memory = record { kept = Ok []; memory = memory }
rewriting place (suc n) memory =
    let before = rewriting place n memory in and_then_one (place + 48 * n) before.kept before.memory

-- whether all were written, and the memory
pub record Restoring : Type 0 where
  pub answer : Result (Unit {0}) Errno
  pub memory : List ℕ

-- these slots are written back in order, until one lies outside of the memory
abbrev pub restoring : ℕ → List Subscription → List ℕ → Restoring
restoring place [] memory = record { answer = Ok tt; memory = memory }
restoring place (slot ∷ slots) memory =
    if nat_le (place + 48) (length memory)
    then restoring (place + 48) slots (overwritten place (p1_subscription slot) memory)
    else record { answer = Err Fault; memory = memory }
