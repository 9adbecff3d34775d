-- Slots that are read, kept and rewritten one after the other.
use Rattle.std.proofs.Common.{◌≡◌, ℕ, zero, suc, ◌+◌, ◌-◌, ◌*◌, ◌<◌, Bool, true, false, List, ◌∷◌, length, drop, get_or, cond, Result, Ok, Err, refl, sym, ap, ◌∙◌, subst, arith, add-one, add-zero, add-suc}
use Rattle.std.specs.Prelude.{nat_le, IsOk}
use Rattle.std.proofs.lemmas.List.{drop_more}
use Rattle.wasi_base.specs.declared.trappable.TrappableError.{TrappableError}
use Rattle.wasi_base.specs.declared.trappable.TrappableError.TheVariants.{Normal, Trap, OutOfMemory}
use Rattle.wasi_p0.specs.Poll.{RefusesSlot, StopsRewriting}
use Rattle.wasi_p0.specs.Slots.{Rewriting, Restoring, rewriting, restoring, one_more, and_then_one, overwritten, slot_at}
use Rattle.wasi_p1_types.specs.Records.{p1_subscription}
use Rattle.wasi_p1_types.specs.declared.errno.Errno.{Errno}
use Rattle.wasi_p1_types.specs.declared.errno.Errno.TheVariants.{Fault}
use Rattle.wasi_p1_types.specs.declared.p0.Subscription.{Subscription}

-- one more slot
pub rewriting_more : (place i : ℕ) (memory : List ℕ) (slots : List Subscription) (here : List ℕ) (next : Rewriting) → rewriting place i memory ≡ record { kept = Ok slots; memory = here } → one_more (place + 48 * i) slots here (slot_at (place + 48 * i) here) ≡ next → rewriting place (i + 1) memory ≡ next
rewriting_more place i memory slots here next so_far one =
    rw add-one (ap (λ (r : Rewriting). and_then_one (place + 48 * i) r.kept r.memory) so_far ∙ one)

-- after a slot that is none nothing more is done
pub rewriting_bad : (place i d : ℕ) (memory here : List ℕ) (errno : Errno) → rewriting place i memory ≡ record { kept = Err errno; memory = here } → rewriting place (i + d) memory ≡ record { kept = Err errno; memory = here }
rewriting_bad place i zero memory here errno bad = rw add-zero bad
rewriting_bad place i (suc d) memory here errno bad =
    rw add-suc (ap (λ (r : Rewriting). and_then_one (place + 48 * (i + d)) r.kept r.memory) (rewriting_bad place i d memory here errno bad))

-- the first slot that is none decides
pub rewriting_stops : (place i n : ℕ) (memory : List ℕ) (slots : List Subscription) (here : List ℕ) (errno : Errno) → i < n → rewriting place i memory ≡ record { kept = Ok slots; memory = here } → slot_at (place + 48 * i) here ≡ Err errno → rewriting place n memory ≡ record { kept = Err errno; memory = here }
rewriting_stops place i n memory slots here errno below so_far bad =
    let one = ap (λ (r : Result Subscription Errno). one_more (place + 48 * i) slots here r) bad in
    let first = rewriting_more place i memory slots here (record { kept = Err errno; memory = here }) so_far one in
    let all : i + 1 + (n - (i + 1)) ≡ n = omega arith in
    let P : ℕ → Type 0 = λ k. rewriting place k memory ≡ record { kept = Err errno; memory = here } in
    subst P all (rewriting_bad place (i + 1) (n - (i + 1)) memory here errno first)

-- writing back from a slot on
from_slot : (place i : ℕ) (slots : List Subscription) (memory : List ℕ) (slot : Subscription) → i < length slots → slot ≡ get_or slots i slot → restoring (place + 48 * i) (drop i slots) memory ≡ cond (nat_le (place + 48 * i + 48) (length memory)) (restoring (place + 48 * (i + 1)) (drop (i + 1) slots) (overwritten (place + 48 * i) (p1_subscription slot) memory)) (record { answer = Err Fault; memory = memory })
from_slot place i slots memory slot below is =
    let later = drop (i + 1) slots in
    let next : place + 48 * i + 48 ≡ place + 48 * (i + 1) = omega arith in
    let cut : drop i slots ≡ slot ∷ later = drop_more slots i slot below ∙ ap (λ (s : Subscription). s ∷ drop (i + 1) slots) (sym is) in
    ap (λ (s : List Subscription). restoring (place + 48 * i) s memory) cut
    ∙ ap (λ (p : ℕ). cond (nat_le (place + 48 * i + 48) (length memory)) (restoring p (drop (i + 1) slots) (overwritten (place + 48 * i) (p1_subscription slot) memory)) (record { answer = Err Fault; memory = memory })) next

accepted : (test : Bool) (written memory here : List ℕ) (later : List ℕ → Restoring) → Ok tt ≡ (let r : Result (Unit {0}) Errno = cond test (Ok tt) (Err Fault) in r) → here ≡ cond test written memory → cond test (later written) (record { answer = Err Fault; memory = memory }) ≡ later here
accepted true written memory here later fits is = ap (λ (m : List ℕ). later m) (sym is)
accepted false written memory here later fits is = cc

refused : (test : Bool) (written memory here : List ℕ) (later : Restoring) (errno : Errno) → Err errno ≡ (let r : Result (Unit {0}) Errno = cond test (Ok tt) (Err Fault) in r) → here ≡ cond test written memory → cond test later (record { answer = Err Fault; memory = memory }) ≡ record { answer = Err errno; memory = here }
refused true written memory here later errno fits is = cc
refused false written memory here later errno fits is =
    let same : errno ≡ Fault = cc in
    ap (λ (m : List ℕ). record { answer = Err Fault; memory = m }) (sym is) ∙ ap (λ (e : Errno). record { answer = Err e; memory = here }) (sym same)

-- a slot was written back
pub restoring_more : (place i : ℕ) (slots : List Subscription) (memory here : List ℕ) (slot : Subscription) → i < length slots → slot ≡ get_or slots i slot → Ok tt ≡ (let r : Result (Unit {0}) Errno = cond (nat_le (place + 48 * i + 48) (length memory)) (Ok tt) (Err Fault) in r) → here ≡ cond (nat_le (place + 48 * i + 48) (length memory)) (overwritten (place + 48 * i) (p1_subscription slot) memory) memory → restoring (place + 48 * (i + 1)) (drop (i + 1) slots) here ≡ restoring (place + 48 * i) (drop i slots) memory
restoring_more place i slots memory here slot below is fits written =
    sym (from_slot place i slots memory slot below is ∙ accepted (nat_le (place + 48 * i + 48) (length memory)) (overwritten (place + 48 * i) (p1_subscription slot) memory) memory here (λ m. restoring (place + 48 * (i + 1)) (drop (i + 1) slots) m) fits written)

-- a slot could not be written back
pub restoring_stops : (place i : ℕ) (slots : List Subscription) (memory here : List ℕ) (slot : Subscription) (errno : Errno) → i < length slots → slot ≡ get_or slots i slot → Err errno ≡ (let r : Result (Unit {0}) Errno = cond (nat_le (place + 48 * i + 48) (length memory)) (Ok tt) (Err Fault) in r) → here ≡ cond (nat_le (place + 48 * i + 48) (length memory)) (overwritten (place + 48 * i) (p1_subscription slot) memory) memory → restoring (place + 48 * i) (drop i slots) memory ≡ record { answer = Err errno; memory = here }
restoring_stops place i slots memory here slot errno below is fits written =
    from_slot place i slots memory slot below is
    ∙ refused (nat_le (place + 48 * i + 48) (length memory)) (overwritten (place + 48 * i) (p1_subscription slot) memory) memory here (restoring (place + 48 * (i + 1)) (drop (i + 1) slots) (overwritten (place + 48 * i) (p1_subscription slot) memory)) errno fits written

-- a slot that can be read is kept
kept_one : (place : ℕ) (slots : List Subscription) (memory : List ℕ) (slot : Result Subscription Errno) → IsOk slot → IsOk (one_more place slots memory slot).kept
kept_one place slots memory (Ok slot) h = h
kept_one place slots memory (Err errno) h = h

-- a slot that was not kept ends the rewriting
pub rewriting_ends : (place i n : ℕ) (memory : List ℕ) (slots : List Subscription) (here here' : List ℕ) (error : TrappableError Errno) → i < n → rewriting place i memory ≡ record { kept = Ok slots; memory = here } → RefusesSlot error (slot_at (place + 48 * i) here) → here' ≡ here → StopsRewriting place n memory error here'
rewriting_ends place i n memory slots here here' (Normal errno) below so_far why same =
    rewriting_stops place i n memory slots here errno below so_far why ∙ ap (λ (m : List ℕ). record { kept = Err errno; memory = m }) (sym same)
rewriting_ends place i n memory slots here here' (Trap text) below so_far why same = why
rewriting_ends place i n memory slots here here' OutOfMemory below so_far why same =
    let next : Rewriting = one_more (place + 48 * i) slots here (slot_at (place + 48 * i) here) in
    let P : Rewriting → Type 0 = λ r. IsOk r.kept in
    let read : IsOk (rewriting place (i + 1) memory).kept = subst P (sym (rewriting_more place i memory slots here next so_far refl)) (kept_one (place + 48 * i) slots here (slot_at (place + 48 * i) here) why) in
    (i, below, read, same ∙ sym (ap (λ (r : Rewriting). r.memory) so_far))
