-- What comes of the history and the passes that are handed in.
use Rattle.std.specs.Prelude.{◌≡◌, ◌≢◌, ℕ, ◌<◌, cond, List, [], ◌∷◌, ◌++◌, length, take, Option, Some, None, slice_get, ◌⊎◌}
use Rattle.wasi_threads.specs.declared.entry.Entry.{Entry}
use Rattle.wasi_threads.specs.declared.entry.Event.{Event}
use Rattle.wasi_threads.specs.declared.entry.Event.TheVariants.{Join, Read, Skip, Ready, Block, PollRead, WaitOver, Capture, Deliver, Stop, SawStop}
use Rattle.wasi_threads.specs.declared.collect.Compared.{Compared}
use Rattle.wasi_threads.specs.declared.collect.Compared.TheVariants as compared
use Rattle.wasi_threads.specs.declared.collect.First.{First}
use Rattle.wasi_threads.specs.declared.collect.First.TheVariants as first
use Rattle.wasi_threads.specs.declared.collect.CollectError.{CollectError}
use Rattle.wasi_threads.specs.declared.collect.CollectError.TheVariants as refused
use Rattle.std.specs.Prelude.{zero, suc}
use Rattle.wasi_threads.specs.History.{AreLegal, opening, replayed}
use Rattle.wasi_threads.specs.Rounds.{delivery_of, is_given, Worked}
use Rattle.wasi_base.specs.Source.{Told}
use Rattle.wasi_threads.specs.Passes.{Passing, part_after, AreParts, held_by, holders}

-- a pass's entries begin its part
abbrev pub Begins : List Entry → List Entry → Type 0
Begins entries part = entries ≡ take (length entries) part

-- the passes from the first on begin their parts
abbrev pub AreBeginnings : List ℕ → List Passing → List Entry → Type 0
AreBeginnings seen [] history = Unit {0}
AreBeginnings seen (p ∷ ps) history = Begins p.entries (part_after seen p.number history) × AreBeginnings (p.number ∷ seen) ps history

-- an entry of a pass that is not the one at its place, the first such of the pass
pub record Differs (part entries : List Entry) (at : ℕ) (kept : Entry) (found : Option Entry) : Type 0 where
  pub before : take at entries ≡ take at part
  pub here : slice_get entries at ≡ Some kept
  pub there : slice_get part at ≡ found
  pub differs : found ≢ Some kept

-- the first difference of all: the passes before begin their parts
abbrev pub FirstDiffers : List ℕ → List Passing → List Entry → ℕ → ℕ → Entry → Option Entry → Type 0
FirstDiffers seen [] history pass at kept found = ⊥
FirstDiffers seen (p ∷ ps) history pass at kept found =
    ((p.number ≡ pass) × Differs (part_after seen p.number history) p.entries at kept found) ⊎ (Begins p.entries (part_after seen p.number history) × FirstDiffers (p.number ∷ seen) ps history pass at kept found)

-- the bytes handed out or skipped, and the bytes delivered
abbrev pub out_of : Event → List ℕ → List ℕ
out_of (Read size) bytes = bytes
out_of (Skip size) bytes = bytes
out_of (PollRead wait room) bytes = bytes
out_of Join bytes = []
out_of Ready bytes = []
out_of (Block wait) bytes = []
out_of (WaitOver wait) bytes = []
out_of Capture bytes = []
out_of (Deliver outcome) bytes = []
out_of Stop bytes = []
out_of SawStop bytes = []

abbrev pub in_of : Event → List ℕ → List ℕ
in_of event bytes = cond (is_given (delivery_of event)) bytes []

abbrev pub handed_out : List Entry → List ℕ
handed_out [] = []
handed_out (e ∷ es) = out_of e.event e.bytes ++ handed_out es

abbrev pub brought_in : List Entry → List ℕ
brought_in [] = []
brought_in (e ∷ es) = in_of e.event e.bytes ++ brought_in es

-- a history, with the passes that hold all of it
pub record IsWhole (passes : List Passing) (history : List Entry) : Type 0 where
  pub legal : AreLegal 0 opening history
  pub parts : AreParts [] passes history
  pub one : (k : ℕ) → k < length history → holders k passes ≡ 1

-- what was handed out and what is held is what was delivered, which the worker's entries tell
pub record IsCollected (worker : Passing) (passes : List Passing) (history : List Entry) (pieces held : List ℕ) : Type 0 where
  pub whole : IsWhole (worker ∷ passes) history
  pub out : pieces ≡ handed_out history
  pub rest : held ≡ (replayed opening history).shared.held
  pub all : pieces ++ held ≡ brought_in history
  pub mine : brought_in history ≡ brought_in worker.entries

abbrev pub found_at : List Entry → Option ℕ → Option Entry
found_at history None = None
found_at history (Some place) = slice_get history place

abbrev pub ComparedIs : Compared → List Entry → List Entry → List Entry → Type 0
ComparedIs compared.Begins history part entries = Begins entries part
ComparedIs (compared.Differs at place) history part entries = (kept : Entry) → slice_get entries at ≡ Some kept → Differs part entries at kept (found_at history place)

abbrev pub pass_of : List Passing → ℕ → ℕ
pass_of [] i = 0
pass_of (p ∷ ps) zero = p.number
pass_of (p ∷ ps) (suc i) = pass_of ps i

abbrev pub entries_of : List Passing → ℕ → List Entry
entries_of [] i = []
entries_of (p ∷ ps) zero = p.entries
entries_of (p ∷ ps) (suc i) = entries_of ps i

abbrev pub FirstIs : First → List Entry → List Passing → Type 0
FirstIs first.Nowhere history passes = AreBeginnings [] passes history
FirstIs (first.At i at place) history passes = (kept : Entry) → slice_get (entries_of passes i) at ≡ Some kept → FirstDiffers [] passes history (pass_of passes i) at kept (found_at history place)

abbrev pub IsWithin : ℕ → ℕ → Option ℕ → List Entry → List Passing → Type 0
IsWithin i at None history passes = (i < length passes) × (at < length (entries_of passes i))
IsWithin i at (Some place) history passes = (i < length passes) × (at < length (entries_of passes i)) × (place < length history)

abbrev pub RefusedIs : CollectError → List Passing → List Entry → Type 0
RefusedIs (refused.Mismatch pass at kept found) passes history = FirstDiffers [] passes history pass at kept found
RefusedIs (refused.Open shares total) passes history = AreBeginnings [] passes history × (shares ≡ held_by passes) × (total ≡ length history) × (shares ≢ total)
RefusedIs refused.OutOfMemory passes history = Unit {0}

abbrev pub ComparedWithin : Compared → List Entry → List Entry → Type 0
ComparedWithin compared.Begins history entries = Unit {0}
ComparedWithin (compared.Differs at None) history entries = at < length entries
ComparedWithin (compared.Differs at (Some place)) history entries = (at < length entries) × (place < length history)

abbrev pub FirstWithin : First → List Entry → List Passing → Type 0
FirstWithin first.Nowhere history passes = Unit {0}
FirstWithin (first.At i at place) history passes = IsWithin i at place history passes

-- some pass of this number keeps this entry at this place
abbrev pub KeepsAt : List Passing → ℕ → ℕ → Entry → Type 0
KeepsAt [] pass at kept = ⊥
KeepsAt (p ∷ ps) pass at kept = ((p.number ≡ pass) × (slice_get p.entries at ≡ Some kept)) ⊎ KeepsAt ps pass at kept

-- what a refusal says of the passes alone
abbrev pub IsRefusal : CollectError → List Passing → Type 0
IsRefusal (refused.Mismatch pass at kept found) passes = KeepsAt passes pass at kept × (found ≢ Some kept)
IsRefusal (refused.Open shares total) passes = (shares ≡ held_by passes) × (shares ≢ total)
IsRefusal refused.OutOfMemory passes = Unit {0}

-- what the worker's deliveries brought in, and what the source has left, joined, stays
abbrev pub DeliveriesKeepTheInput : Type 0
DeliveriesKeepTheInput = (a b : Passing) (before after : Option Told) (faults now : ℕ) (t u : Told) → Worked a b before after faults now → before ≡ Some t → after ≡ Some u → brought_in b.entries ++ u.left ≡ brought_in a.entries ++ t.left
