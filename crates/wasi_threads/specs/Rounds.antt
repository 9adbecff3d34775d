-- What the worker's entries say of the source's reads.
use Rattle.std.specs.Prelude.{Bool, true, false, ◌||◌, ◌<◌, ◌≤◌, ◌≡◌, ℕ, List, [], ◌∷◌, ◌++◌, Option, Some, None, drop, length}
use Rattle.wasi_base.specs.Causes.{Rose}
use Rattle.wasi_base.specs.Source.{Told, Given, gives, told_after}
use Rattle.wasi_base.specs.Source as given
use Rattle.wasi_stdin.specs.Shared.{outcome_of}
use Rattle.wasi_stdin.specs.declared.answer.Outcome.{Outcome}
use Rattle.wasi_stdin.specs.declared.answer.Outcome.TheVariants as outcome
use Rattle.wasi_threads.specs.declared.entry.Entry.{Entry}
use Rattle.wasi_threads.specs.declared.entry.Event.{Event}
use Rattle.wasi_threads.specs.declared.entry.Event.TheVariants.{Join, Read, Skip, Ready, Block, PollRead, WaitOver, Capture, Deliver, Stop, SawStop}
use Rattle.wasi_threads.specs.declared.entry.Kept.{Kept}
use Rattle.wasi_threads.specs.declared.entry.Kept.TheVariants as kept
use Rattle.wasi_threads.specs.declared.round.Taken.{Taken}
use Rattle.wasi_threads.specs.declared.round.Taken.TheVariants as taken
use Rattle.wasi_threads.specs.declared.round.Step.{Step}
use Rattle.wasi_threads.specs.declared.round.Step.TheVariants as step
use Rattle.wasi_threads.specs.Passes.{Passing, HasPlace, has_sight}
use Rattle.wasi_threads.specs.Calls.{Gains, SamePass}

-- what an event delivers
abbrev pub delivery_of : Event → Option Outcome
delivery_of Join = None
delivery_of (Read size) = None
delivery_of (Skip size) = None
delivery_of Ready = None
delivery_of (Block wait) = None
delivery_of (PollRead wait room) = None
delivery_of (WaitOver wait) = None
delivery_of Capture = None
delivery_of (Deliver outcome) = Some outcome
delivery_of Stop = None
delivery_of SawStop = None

abbrev pub is_given : Option Outcome → Bool
is_given None = false
is_given (Some o) = true

-- an end or a fault is the last thing that is delivered
abbrev pub is_last : Option Outcome → Bool
is_last None = false
is_last (Some (outcome.Gave n)) = false
is_last (Some outcome.End) = true
is_last (Some (outcome.Fault kind)) = true

abbrev pub is_fault : Option Outcome → Bool
is_fault None = false
is_fault (Some (outcome.Gave n)) = false
is_fault (Some outcome.End) = false
is_fault (Some (outcome.Fault kind)) = true

abbrev pub has_last : List Entry → Bool
has_last [] = false
has_last (e ∷ es) = is_last (delivery_of e.event) || has_last es

abbrev pub has_fault : List Entry → Bool
has_fault [] = false
has_fault (e ∷ es) = is_fault (delivery_of e.event) || has_fault es

-- the size that a capture kept
abbrev pub size_kept : Kept → ℕ
size_kept (kept.Count n) = n
size_kept kept.None = 0
size_kept (kept.Flag b) = 0
size_kept kept.Closed = 0
size_kept (kept.Failed kind) = 0
size_kept kept.Pending = 0

abbrev pub bytes_given : Given → List ℕ
bytes_given (given.Bytes bytes) = bytes
bytes_given given.End = []
bytes_given (given.Fault kind) = []

-- a capture and its delivery
pub record IsPair (c d : Entry) : Type 0 where
  pub capture : c.event ≡ Capture
  pub deliver : is_given (delivery_of d.event) ≡ true

-- pairs that gave bytes
abbrev pub AreGiving : List Entry → Type 0
AreGiving [] = Unit {0}
AreGiving (c ∷ []) = ⊥
AreGiving (c ∷ d ∷ es) = IsPair c d × (is_last (delivery_of d.event) ≡ false) × AreGiving es

-- pairs, of which only the last one may deliver an end or a fault, and after them at most one sight of a stop
abbrev pub AreRounds : List Entry → Type 0
AreRounds [] = Unit {0}
AreRounds (c ∷ []) = c.event ≡ SawStop
AreRounds (c ∷ d ∷ es) = IsPair c d × (is_last (delivery_of d.event) ≡ true → es ≡ []) × AreRounds es

-- a pair that one read of a source that tells made
pub record IsReadOf (t : Told) (c d : Entry) : Type 0 where
  pub event : d.event ≡ Deliver (outcome_of (gives t (size_kept c.answer)))
  pub bytes : d.bytes ≡ bytes_given (gives t (size_kept c.answer))

abbrev pub AreReadsOf : Told → List Entry → Type 0
AreReadsOf t [] = Unit {0}
AreReadsOf t (c ∷ []) = Unit {0}
AreReadsOf t (c ∷ d ∷ es) = IsReadOf t c d × AreReadsOf (told_after t (size_kept c.answer)) es

abbrev pub told_by_rounds : Told → List Entry → Told
told_by_rounds t [] = t
told_by_rounds t (c ∷ []) = t
told_by_rounds t (c ∷ d ∷ es) = told_by_rounds (told_after t (size_kept c.answer)) es

-- the reads of a call, one for each pair; a fault is delivered only where the source's count rose
pub record Reads (before after : Option Told) (faults now : ℕ) (added : List Entry) : Type 0 where
  pub told : (t : Told) → before ≡ Some t → AreReadsOf t added × (after ≡ Some (told_by_rounds t added))
  pub later : faults ≤ now
  pub cause : has_fault added ≡ true → Rose faults now

-- the entries of a call are the last ones
abbrev pub added_to : Passing → Passing → List Entry
added_to before after = drop (length before.entries) after.entries

pub record Adds (before after : Passing) : Type 0 where
  pub entries : after.entries ≡ before.entries ++ added_to before after
  pub number : after.number ≡ before.number

-- pairs that gave
pub record Gave (before after : Passing) (told next : Option Told) (faults now : ℕ) : Type 0 where
  pub adds : Adds before after
  pub pairs : AreGiving (added_to before after)
  pub reads : Reads told next faults now (added_to before after)

-- what the worker adds to its pass, and the reads that it makes for it
pub record Worked (before after : Passing) (told next : Option Told) (faults now : ℕ) : Type 0 where
  pub adds : Adds before after
  pub rounds : AreRounds (added_to before after)
  pub reads : Reads told next faults now (added_to before after)

-- how a worker's step ended
abbrev pub StepIs : Step → Passing → Passing → Option Told → Option Told → ℕ → ℕ → Type 0
StepIs step.Went before after told next faults now = Gave before after told next faults now × (has_sight after.entries ≡ has_sight before.entries)
StepIs step.Ended before after told next faults now = Worked before after told next faults now × (has_last after.entries ≡ true)
StepIs step.Stopped before after told next faults now = Worked before after told next faults now × (has_sight after.entries ≡ true)
StepIs step.NoMemory before after told next faults now = SamePass before after × (next ≡ told) × (now ≡ faults)

abbrev pub TakenIs : Taken → Passing → Passing → Type 0
TakenIs taken.Stopped before after = Gains before after SawStop kept.None [] None
TakenIs (taken.Some round) before after = Gains before after Capture (kept.Count round.size) [] None × (0 < round.size) × HasPlace after
TakenIs taken.NoMemory before after = SamePass before after
