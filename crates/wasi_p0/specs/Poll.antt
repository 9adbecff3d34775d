-- A poll of preview 0 over an object, `Fuel` and `Polls` being what the object's two calls mean.
use Rattle.std.specs.Prelude.{◌≡◌, ℕ, ◌+◌, ◌*◌, ◌<◌, List, Result, Ok, Err, IsOk, ◌⊎◌}
use Rattle.wasi_base.specs.declared.trappable.TrappableError.{TrappableError}
use Rattle.wasi_base.specs.declared.trappable.TrappableError.TheVariants.{Normal, Trap, OutOfMemory}
use Rattle.wasi_p0.specs.Slots.{rewriting, restoring, slot_at}
use Rattle.wasi_p1_types.specs.declared.errno.Errno.{Errno}
use Rattle.wasi_p1_types.specs.declared.p0.Subscription.{Subscription}

-- an object and its guest's memory
pub record Standing (T : Type 0) : Type 0 where
  pub object : T
  pub memory : List ℕ

-- what a poll answers and leaves
pub record Polled (T : Type 0) : Type 0 where
  pub answer : Result ℕ (TrappableError Errno)
  pub object : T
  pub memory : List ℕ

-- the slots that are waited for: where the first one stands, and how many they are
pub record Waits : Type 0 where
  pub place : ℕ
  pub count : ℕ

-- refused, with the object and the memory as they stood
pub record Refused {T : Type 0} (error : TrappableError Errno) (now : Standing T) (after : Polled T) : Type 0 where
  pub answer : after.answer ≡ Err error
  pub object : after.object ≡ now.object
  pub memory : after.memory ≡ now.memory

-- the slots' count of events, unless one could not be written back
abbrev pub counted : ℕ → Result (Unit {0}) Errno → Result ℕ (TrappableError Errno)
counted count (Ok done) = Ok count
counted count (Err errno) = Err (Normal errno)

-- an error of the call leaves the slots as they stand; else the kept ones are written back
abbrev pub AfterCall : {T : Type 0} → ℕ → List Subscription → Result ℕ (TrappableError Errno) → List ℕ → Polled T → Type 0
AfterCall place kept (Ok count) left after =
    (after.answer ≡ counted count (restoring place kept left).answer) × (after.memory ≡ (restoring place kept left).memory)
AfterCall place kept (Err error) left after = (after.answer ≡ Err error) × (after.memory ≡ left)

-- the one call, on the slots as preview 1 has them, with its answer and what it left in the memory
pub record Calls {T : Type 0} (Polls : T → List ℕ → Result ℕ (TrappableError Errno) → T → List ℕ → Type 0) (place : ℕ) (kept : List Subscription) (now : Standing T) (after : Polled T) : Type 0 where
  pub answer : Result ℕ (TrappableError Errno)
  pub left : List ℕ
  pub called : Polls now.object now.memory answer after.object left
  pub ends : AfterCall place kept answer left after

-- a slot that can't be read ends the poll, with the slots as rewritten so far
abbrev pub AfterRewriting : {T : Type 0} → (T → List ℕ → Result ℕ (TrappableError Errno) → T → List ℕ → Type 0) → ℕ → Result (List Subscription) Errno → Standing T → Polled T → Type 0
AfterRewriting Polls place (Ok kept) now after = Calls Polls place kept now after
AfterRewriting Polls place (Err errno) now after = Refused (Normal errno) now after

-- an object, and the memory with the first n slots rewritten
abbrev pub with_rewritten : {T : Type 0} → ℕ → ℕ → Standing T → Standing T
with_rewritten place n now = record now { memory = (rewriting place n now.memory).memory }

-- there was no memory to keep a slot, which can be read as those before it can; these are rewritten
pub record WantsMemory {T : Type 0} (waits : Waits) (now : Standing T) (after : Polled T) : Type 0 where
  pub rewritten : ℕ
  pub left : rewritten < waits.count
  pub read : IsOk (rewriting waits.place (rewritten + 1) now.memory).kept
  pub refused : Refused OutOfMemory (with_rewritten waits.place rewritten now) after

abbrev pub AfterFuel : {T : Type 0} → (T → List ℕ → Result ℕ (TrappableError Errno) → T → List ℕ → Type 0) → Waits → Result (Unit {0}) (TrappableError Errno) → Standing T → Polled T → Type 0
AfterFuel Polls waits (Ok paid) now after =
    AfterRewriting Polls waits.place (rewriting waits.place waits.count now.memory).kept (with_rewritten waits.place waits.count now) after
    ⊎ WantsMemory waits now after
AfterFuel Polls waits (Err error) now after = Refused error now after

-- fuel for each slot first, which leaves the object as `fuelled`; then the slots, then the call
pub record PollsOneoff {T : Type 0} (Fuel : T → ℕ → Result (Unit {0}) (TrappableError Errno) → T → Type 0) (Polls : T → List ℕ → Result ℕ (TrappableError Errno) → T → List ℕ → Type 0) (waits : Waits) (before : Standing T) (after : Polled T) : Type 0 where
  pub paid : Result (Unit {0}) (TrappableError Errno)
  pub fuelled : T
  pub consumed : Fuel before.object (48 * waits.count) paid fuelled
  pub ends : AfterFuel Polls waits paid (record { object = fuelled; memory = before.memory }) after

-- each slot reads as before
abbrev pub ReadsAsBefore : Waits → List ℕ → List ℕ → Type 0
ReadsAsBefore waits before after =
    (i : ℕ) → i < waits.count → slot_at (waits.place + 48 * i) after ≡ slot_at (waits.place + 48 * i) before

-- why a slot wasn't kept
abbrev pub RefusesSlot : TrappableError Errno → Result Subscription Errno → Type 0
RefusesSlot (Normal errno) slot = slot ≡ Err errno
RefusesSlot (Trap text) slot = ⊥
RefusesSlot OutOfMemory slot = IsOk slot

-- why the slots were not all kept
abbrev pub StopsRewriting : ℕ → ℕ → List ℕ → TrappableError Errno → List ℕ → Type 0
StopsRewriting subs n memory (Normal errno) memory' = rewriting subs n memory ≡ record { kept = Err errno; memory = memory' }
StopsRewriting subs n memory (Trap text) memory' = ⊥
StopsRewriting subs n memory OutOfMemory memory' = (i : ℕ) × (i < n) × IsOk (rewriting subs (i + 1) memory).kept × (memory' ≡ (rewriting subs i memory).memory)
