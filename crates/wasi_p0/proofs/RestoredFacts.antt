-- After a poll that succeeded each slot reads as before it.
use Rattle.std.proofs.Common.{◌≡◌, ℕ, zero, suc, ◌+◌, ◌*◌, ◌<◌, ◌≤◌, ◌⊎◌, Bool, true, false, List, [], ◌∷◌, ◌++◌, length, drop, get_or, Result, Ok, Err, cond, inl, inr, sym, ap, ◌∙◌, subst, refl, arith, add-one, length-drop, length-take}
use Rattle.std.specs.Prelude.{nat_le, OnOk}
use Rattle.std.proofs.lemmas.Bool.{le-leb, leb-true}
use Rattle.std.proofs.lemmas.List.{get_or_append_left, get_or_push, length_push}
use Rattle.wasi_base.specs.declared.trappable.TrappableError.{TrappableError}
use Rattle.wasi_base.specs.declared.trappable.TrappableError.TheVariants.{Normal, OutOfMemory}
use Rattle.wasi_p0.proofs.ReadBackFacts.{AreBytes, bytes-take, bytes-drop, reads_back}
use Rattle.wasi_p0.proofs.WindowFacts.{length-overwritten, window-overwritten, window-before, window-after, slot_at-window}
use Rattle.wasi_p0.specs.Poll.{Standing, Polled, Waits, AfterCall, AfterRewriting, AfterFuel, PollsOneoff, ReadsAsBefore, counted}
use Rattle.wasi_p0.specs.Slot.{slot_in, with_slot}
use Rattle.wasi_p0.specs.Slots.{window, slot_at, overwritten, Rewriting, rewriting, one_more, and_then_one, Restoring, restoring}
use Rattle.wasi_p1_types.specs.Records.{p1_subscription}
use Rattle.wasi_p1_types.specs.declared.errno.Errno.{Errno}
use Rattle.wasi_p1_types.specs.declared.errno.Errno.TheVariants.{Fault}
use Rattle.wasi_p1_types.specs.declared.p0.Subscription.{Subscription}
use Rattle.wasi_p1_types.specs.declared.p0.SubscriptionU.TheVariants.{FdRead}

-- a slot that was read lies in the memory
inside : (test : Bool) (read : Result Subscription Errno) (slot : Subscription) → cond test read (Err Fault) ≡ Ok slot → (test ≡ true) × (read ≡ Ok slot)
inside true read slot is = (refl, is)
inside false read slot is = cc

-- what the first n slots are, and what rewriting them leaves as it was
record IsRewritten (place n : ℕ) (memory : List ℕ) (slots : List Subscription) (here : List ℕ) : Type 0 where
  count : length slots ≡ n
  sizes : length here ≡ length memory
  ahead : (p : ℕ) → place + 48 * n ≤ p → window p here ≡ window p memory
  kept : (i : ℕ) (d : Subscription) → i < n → slot_at (place + 48 * i) memory ≡ Ok (get_or slots i d)

split : (i n : ℕ) → i < n + 1 → (i < n) ⊎ (i ≡ n)
split i n below = grind arith

kept_more : (place n : ℕ) (memory : List ℕ) (slots : List Subscription) (slot : Subscription) → length slots ≡ n → ((i : ℕ) (d : Subscription) → i < n → slot_at (place + 48 * i) memory ≡ Ok (get_or slots i d)) → slot_at (place + 48 * n) memory ≡ Ok slot → (i : ℕ) (d : Subscription) → (i < n) ⊎ (i ≡ n) → slot_at (place + 48 * i) memory ≡ Ok (get_or (slots ++ slot ∷ []) i d)
kept_more place n memory slots slot count before there i d (inl below) =
    before i d below ∙ ap (λ (s : Subscription). Ok s) (sym (get_or_append_left slots (slot ∷ []) d i (omega arith)))
kept_more place n memory slots slot count before there i d (inr here) =
    ap (λ (k : ℕ). slot_at (place + 48 * k) memory) here ∙ there ∙ ap (λ (s : Subscription). Ok s) (sym (get_or_push slots slot d i (count ∙ sym here)))

-- one more slot
more : (place n : ℕ) (memory : List ℕ) (slots : List Subscription) (here : List ℕ) (slot : Subscription) → IsRewritten place n memory slots here → slot_at (place + 48 * n) here ≡ Ok slot → IsRewritten place (n + 1) memory (slots ++ slot ∷ []) (overwritten (place + 48 * n) (p1_subscription slot) here)
more place n memory slots here slot before is =
    let fits = inside (nat_le (place + 48 * n + 48) (length here)) (slot_in (window (place + 48 * n) here)) slot is in
    let room : place + 48 * n + 48 ≤ length here = leb-true (place + 48 * n + 48) (length here) fits.0 in
    let there : slot_at (place + 48 * n) memory ≡ Ok slot = sym (slot_at-window (place + 48 * n) memory here before.sizes (before.ahead (place + 48 * n) (omega arith))) ∙ is in
    record {
      count = length_push slots slot ∙ ap (λ (k : ℕ). k + 1) before.count;
      sizes = length-overwritten (place + 48 * n) (p1_subscription slot) here room ∙ before.sizes;
      ahead = λ p far. window-after p (place + 48 * n) (p1_subscription slot) here (omega arith) room ∙ before.ahead p (omega arith);
      kept = λ i d below. kept_more place n memory slots slot before.count before.kept there i d (split i n below);
    }

last : (place n : ℕ) (memory : List ℕ) (slots : List Subscription) (here : List ℕ) (slots' : List Subscription) (here' : List ℕ) (read : Result Subscription Errno) → slot_at (place + 48 * n) here ≡ read → IsRewritten place n memory slots here → one_more (place + 48 * n) slots here read ≡ record { kept = Ok slots'; memory = here' } → IsRewritten place (suc n) memory slots' here'
last place n memory slots here slots' here' (Ok slot) at before is =
    let one = more place n memory slots here slot before at in
    let oks : Ok (slots ++ slot ∷ []) ≡ Ok slots' = ap (λ (r : Rewriting). r.kept) is in
    let same_slots : slots ++ slot ∷ [] ≡ slots' = cc in
    let same_memory : overwritten (place + 48 * n) (p1_subscription slot) here ≡ here' = ap (λ (r : Rewriting). r.memory) is in
    let P : ℕ → Type 0 = λ k. IsRewritten place k memory slots' here' in
    let Q : List Subscription → Type 0 = λ s. IsRewritten place (n + 1) memory s here' in
    let R : List ℕ → Type 0 = λ m. IsRewritten place (n + 1) memory (slots ++ slot ∷ []) m in
    subst P (add-one n) (subst Q same_slots (subst R same_memory one))
last place n memory slots here slots' here' (Err errno) at before is =
    let no : Err errno ≡ Ok slots' = ap (λ (r : Rewriting). r.kept) is in cc

step : (place n : ℕ) (memory : List ℕ) (kept : Result (List Subscription) Errno) (here : List ℕ) (slots' : List Subscription) (here' : List ℕ) → ((slots : List Subscription) → kept ≡ Ok slots → IsRewritten place n memory slots here) → and_then_one (place + 48 * n) kept here ≡ record { kept = Ok slots'; memory = here' } → IsRewritten place (suc n) memory slots' here'
step place n memory (Ok slots) here slots' here' before is =
    last place n memory slots here slots' here' (slot_at (place + 48 * n) here) refl (before slots refl) is
step place n memory (Err errno) here slots' here' before is =
    let no : Err errno ≡ Ok slots' = ap (λ (r : Rewriting). r.kept) is in cc

rewritten : (place n : ℕ) (memory : List ℕ) (slots : List Subscription) (here : List ℕ) → rewriting place n memory ≡ record { kept = Ok slots; memory = here } → IsRewritten place n memory slots here
rewritten place zero memory slots here is =
    let oks : Ok [] ≡ Ok slots = ap (λ (r : Rewriting). r.kept) is in
    let no_slots : [] ≡ slots = cc in
    let same : memory ≡ here = ap (λ (r : Rewriting). r.memory) is in
    let P : List Subscription → Type 0 = λ s. IsRewritten place 0 memory s here in
    let Q : List ℕ → Type 0 = λ m. IsRewritten place 0 memory [] m in
    subst P no_slots (subst Q same (record { count = refl; sizes = refl; ahead = λ p far. refl; kept = λ i d below. absurd (omega arith) }))
rewritten place (suc n) memory slots here is =
    let before = rewriting place n memory in
    step place n memory before.kept before.memory slots here
    (λ s e. rewritten place n memory s (rewriting place n memory).memory (ap (λ (k : Result (List Subscription) Errno). record { kept = k; memory = (rewriting place n memory).memory }) e))
    is

-- what the slots are once they were written back
record IsRestored (place : ℕ) (slots : List Subscription) (memory new : List ℕ) : Type 0 where
  sizes : length new ≡ length memory
  behind : (p : ℕ) → p + 48 ≤ place → window p new ≡ window p memory
  reads : (i : ℕ) (d : Subscription) → i < length slots → slot_at (place + 48 * i) new ≡ Ok (get_or slots i d)

abbrev ReadsBack : Subscription → Type 0
ReadsBack slot = (bytes : List ℕ) → length bytes ≡ 48 → slot_in (with_slot (p1_subscription slot) bytes) ≡ Ok slot

first_reads : (place : ℕ) (slot : Subscription) (memory : List ℕ) → place + 48 ≤ length memory → ReadsBack slot → slot_at place (overwritten place (p1_subscription slot) memory) ≡ Ok slot
first_reads place slot memory room back =
    let new = overwritten place (p1_subscription slot) memory in
    let sizes = length-overwritten place (p1_subscription slot) memory room in
    let fits : nat_le (place + 48) (length new) ≡ true = le-leb (place + 48) (length new) (omega arith) in
    let part : length (window place memory) ≡ 48 = simp (length-take, length-drop) (omega arith) in
    ap (λ (test : Bool). cond test (slot_in (window place new)) (Err Fault)) fits
    ∙ ap (λ (bytes : List ℕ). slot_in bytes) (window-overwritten place (p1_subscription slot) memory room)
    ∙ back (window place memory) part

reads_each : (place : ℕ) (slot : Subscription) (slots : List Subscription) (memory new : List ℕ) → place + 48 ≤ length memory → ReadsBack slot → IsRestored (place + 48) slots (overwritten place (p1_subscription slot) memory) new → (i : ℕ) (d : Subscription) → i < length (slot ∷ slots) → slot_at (place + 48 * i) new ≡ Ok (get_or (slot ∷ slots) i d)
reads_each place slot slots memory new room back rest zero d below =
    let here : place ≡ place + 48 * 0 = omega arith in
    let P : ℕ → Type 0 = λ k. slot_at k new ≡ Ok slot in
    subst P here (slot_at-window place (overwritten place (p1_subscription slot) memory) new rest.sizes (rest.behind place (omega arith)) ∙ first_reads place slot memory room back)
reads_each place slot slots memory new room back rest (suc i) d below =
    let here : place + 48 + 48 * i ≡ place + 48 * suc i = omega arith in
    let P : ℕ → Type 0 = λ k. slot_at k new ≡ Ok (get_or slots i d) in
    subst P here (rest.reads i d (omega arith))

by_test : (test : Bool) (place : ℕ) (slot : Subscription) (slots : List Subscription) (memory new : List ℕ) → (test ≡ true → place + 48 ≤ length memory) → ReadsBack slot → (restoring (place + 48) slots (overwritten place (p1_subscription slot) memory) ≡ record { answer = Ok tt; memory = new } → IsRestored (place + 48) slots (overwritten place (p1_subscription slot) memory) new) → cond test (restoring (place + 48) slots (overwritten place (p1_subscription slot) memory)) (record { answer = Err Fault; memory = memory }) ≡ record { answer = Ok tt; memory = new } → IsRestored place (slot ∷ slots) memory new
by_test true place slot slots memory new inside_memory back later is =
    let room = inside_memory refl in
    let rest = later is in
    record {
      sizes = rest.sizes ∙ length-overwritten place (p1_subscription slot) memory room;
      behind = λ p before. rest.behind p (omega arith) ∙ window-before p place (p1_subscription slot) memory before room;
      reads = reads_each place slot slots memory new room back rest;
    }
by_test false place slot slots memory new inside_memory back later is =
    let no : Err Fault ≡ Ok tt = ap (λ (r : Restoring). r.answer) is in cc

restored : (place : ℕ) (slots : List Subscription) (memory new : List ℕ) → ((i : ℕ) (d : Subscription) → i < length slots → ReadsBack (get_or slots i d)) → restoring place slots memory ≡ record { answer = Ok tt; memory = new } → IsRestored place slots memory new
restored place [] memory new back is =
    let P : List ℕ → Type 0 = λ m. IsRestored place [] memory m in
    subst P (ap (λ (r : Restoring). r.memory) is) (record { sizes = refl; behind = λ p before. refl; reads = λ i d below. absurd (omega arith) })
restored place (slot ∷ slots) memory new back is =
    by_test (nat_le (place + 48) (length memory)) place slot slots memory new (leb-true (place + 48) (length memory)) (back 0 slot (omega arith))
    (restored (place + 48) slots (overwritten place (p1_subscription slot) memory) new (λ i d below. back (suc i) d (omega arith)))
    is

-- each kept slot was read of bytes, so it reads back
kept_back : (place n : ℕ) (memory : List ℕ) (slots : List Subscription) (here : List ℕ) → AreBytes memory → IsRewritten place n memory slots here → (i : ℕ) (d : Subscription) → i < length slots → ReadsBack (get_or slots i d)
kept_back place n memory slots here small is i d below bytes whole =
    let there = inside (nat_le (place + 48 * i + 48) (length memory)) (slot_in (window (place + 48 * i) memory)) (get_or slots i d) (is.kept i d (let count = is.count in omega arith)) in
    reads_back (get_or slots i d) (window (place + 48 * i) memory) bytes (bytes-take 48 (drop (place + 48 * i) memory) (bytes-drop (place + 48 * i) memory small)) there.1 whole

kept_reads : (place n : ℕ) (memory : List ℕ) (slots : List Subscription) (here left new : List ℕ) (d : Subscription) → AreBytes memory → rewriting place n memory ≡ record { kept = Ok slots; memory = here } → restoring place slots left ≡ record { answer = Ok tt; memory = new } → (i : ℕ) → i < n → slot_at (place + 48 * i) new ≡ slot_at (place + 48 * i) memory
kept_reads place n memory slots here left new d small first back i below =
    let is = rewritten place n memory slots here first in
    let count = is.count in
    let after = restored place slots left new (kept_back place n memory slots here small is) back in
    after.reads i d (omega arith) ∙ sym (is.kept i d below)

-- after an error nothing is said of the slots
failed : (waits : Waits) (old new : List ℕ) (answer : Result ℕ (TrappableError Errno)) (error : TrappableError Errno) → answer ≡ Err error → OnOk answer (ReadsAsBefore waits old new)
failed waits old new answer error is =
    let P : Result ℕ (TrappableError Errno) → Type 0 = λ r. OnOk r (ReadsAsBefore waits old new) in subst P (sym is) tt

by_restoring : (waits : Waits) (count : ℕ) (slots : List Subscription) (memory here left new : List ℕ) (answer : Result ℕ (TrappableError Errno)) (done : Result (Unit {0}) Errno) → AreBytes memory → rewriting waits.place waits.count memory ≡ record { kept = Ok slots; memory = here } → (restoring waits.place slots left).answer ≡ done → new ≡ (restoring waits.place slots left).memory → answer ≡ counted count done → OnOk answer (ReadsAsBefore waits memory new)
by_restoring waits count slots memory here left new answer (Ok done) small first ends same is =
    let restoring_is : restoring waits.place slots left ≡ record { answer = Ok tt; memory = new } =
    ap (λ (a : Result (Unit {0}) Errno). record { answer = a; memory = (restoring waits.place slots left).memory }) ends
    ∙ ap (λ (m : List ℕ). record { answer = Ok tt; memory = m }) (sym same) in
    let P : Result ℕ (TrappableError Errno) → Type 0 = λ r. OnOk r (ReadsAsBefore waits memory new) in
    let reads : ReadsAsBefore waits memory new = kept_reads waits.place waits.count memory slots here left new (record { userdata = 0; u = FdRead (record { file_descriptor = 0 }) }) small first restoring_is in
    subst P (sym is) reads
by_restoring waits count slots memory here left new answer (Err errno) small first ends same is = failed waits memory new answer (Normal errno) is

after_call : {T : Type 0} → (waits : Waits) (slots : List Subscription) (memory here left : List ℕ) (called : Result ℕ (TrappableError Errno)) (after : Polled T) → AreBytes memory → rewriting waits.place waits.count memory ≡ record { kept = Ok slots; memory = here } → AfterCall waits.place slots called left after → OnOk after.answer (ReadsAsBefore waits memory after.memory)
after_call waits slots memory here left (Ok count) after small first is =
    by_restoring waits count slots memory here left after.memory after.answer (restoring waits.place slots left).answer small first refl is.1 is.0
after_call waits slots memory here left (Err error) after small first is = failed waits memory after.memory after.answer error is.0

after_rewriting : {T : Type 0} → (Polls : T → List ℕ → Result ℕ (TrappableError Errno) → T → List ℕ → Type 0) (waits : Waits) (object : T) (memory here : List ℕ) (kept : Result (List Subscription) Errno) (after : Polled T) → AreBytes memory → rewriting waits.place waits.count memory ≡ record { kept = kept; memory = here } → AfterRewriting Polls waits.place kept (record { object = object; memory = here }) after → OnOk after.answer (ReadsAsBefore waits memory after.memory)
after_rewriting Polls waits object memory here (Ok slots) after small first is =
    after_call waits slots memory here is.left is.answer after small first is.ends
after_rewriting Polls waits object memory here (Err errno) after small first is = failed waits memory after.memory after.answer (Normal errno) is.answer

after_fuel : {T : Type 0} → (Polls : T → List ℕ → Result ℕ (TrappableError Errno) → T → List ℕ → Type 0) (waits : Waits) (paid : Result (Unit {0}) (TrappableError Errno)) (object : T) (memory : List ℕ) (after : Polled T) → AreBytes memory → AfterFuel Polls waits paid (record { object = object; memory = memory }) after → OnOk after.answer (ReadsAsBefore waits memory after.memory)
after_fuel Polls waits (Ok paid) object memory after small (inl is) =
    after_rewriting Polls waits object memory (rewriting waits.place waits.count memory).memory (rewriting waits.place waits.count memory).kept after small refl is
after_fuel Polls waits (Ok paid) object memory after small (inr is) = failed waits memory after.memory after.answer OutOfMemory is.refused.answer
after_fuel Polls waits (Err error) object memory after small is = failed waits memory after.memory after.answer error is.answer

-- after a poll that succeeded each slot reads as before it
pub restores : {T : Type 0} → (Fuel : T → ℕ → Result (Unit {0}) (TrappableError Errno) → T → Type 0) (Polls : T → List ℕ → Result ℕ (TrappableError Errno) → T → List ℕ → Type 0) (waits : Waits) (before : Standing T) (after : Polled T) → AreBytes before.memory → PollsOneoff Fuel Polls waits before after → OnOk after.answer (ReadsAsBefore waits before.memory after.memory)
restores Fuel Polls waits before after small is =
    after_fuel Polls waits is.paid is.fuelled before.memory after small is.ends
