-- What a pass carries, and which entries of a history are its part.
use Rattle.std.specs.Prelude.{◌≡◌, ℕ, ◌+◌, ◌≤◌, Bool, true, false, ◌||◌, nat_eq, cond, List, [], ◌∷◌, length}
use Rattle.wasi_threads.specs.declared.entry.Entry.{Entry}
use Rattle.wasi_threads.specs.declared.entry.Event.{Event}
use Rattle.wasi_threads.specs.declared.entry.Event.TheVariants.{Join, Read, Skip, Ready, Block, PollRead, WaitOver, Capture, Deliver, Stop, SawStop}

-- its number, its entries, and for how many more there is room
pub record Passing : Type 0 where
  pub number : ℕ
  pub entries : List Entry
  pub room : ℕ

abbrev pub is_stop : Event → Bool
is_stop Join = false
is_stop (Read size) = false
is_stop (Skip size) = false
is_stop Ready = false
is_stop (Block wait) = false
is_stop (PollRead wait room) = false
is_stop (WaitOver wait) = false
is_stop Capture = false
is_stop (Deliver outcome) = false
is_stop Stop = true
is_stop SawStop = false

abbrev pub is_sight : Event → Bool
is_sight Join = false
is_sight (Read size) = false
is_sight (Skip size) = false
is_sight Ready = false
is_sight (Block wait) = false
is_sight (PollRead wait room) = false
is_sight (WaitOver wait) = false
is_sight Capture = false
is_sight (Deliver outcome) = false
is_sight Stop = false
is_sight SawStop = true

abbrev pub has_stop : List Entry → Bool
has_stop [] = false
has_stop (e ∷ es) = is_stop e.event || has_stop es

abbrev pub has_sight : List Entry → Bool
has_sight [] = false
has_sight (e ∷ es) = is_sight e.event || has_sight es

-- the places that a pass keeps for a stop and a sight of a stop
abbrev pub owed_by : List Entry → ℕ
owed_by entries = cond (has_stop entries) 0 1 + cond (has_sight entries) 0 1

-- room for one entry more
abbrev pub HasPlace : Passing → Type 0
HasPlace pass = owed_by pass.entries + 1 ≤ pass.room

-- the entries of one pass, in order
abbrev pub part_of : ℕ → List Entry → List Entry
part_of n [] = []
part_of n (e ∷ es) = cond (nat_eq e.pass n) (e ∷ part_of n es) (part_of n es)

abbrev pub is_among : ℕ → List ℕ → Bool
is_among n [] = false
is_among n (m ∷ ms) = nat_eq n m || is_among n ms

abbrev pub numbers_of : List Passing → List ℕ
numbers_of [] = []
numbers_of (p ∷ ps) = p.number ∷ numbers_of ps

-- how many entries the passes hold together
abbrev pub held_by : List Passing → ℕ
held_by [] = 0
held_by (p ∷ ps) = length p.entries + held_by ps

-- the part of a pass: none where its number stands earlier
abbrev pub part_after : List ℕ → ℕ → List Entry → List Entry
part_after seen n history = cond (is_among n seen) [] (part_of n history)

-- each pass's entries are its part
abbrev pub AreParts : List ℕ → List Passing → List Entry → Type 0
AreParts seen [] history = Unit {0}
AreParts seen (p ∷ ps) history = (p.entries ≡ part_after seen p.number history) × AreParts (p.number ∷ seen) ps history

-- each entry's pass is one of these
abbrev pub AllAmong : List Entry → List ℕ → Type 0
AllAmong [] numbers = Unit {0}
AllAmong (e ∷ es) numbers = (is_among e.pass numbers ≡ true) × AllAmong es numbers

abbrev pub tick : Bool → ℕ
tick false = 0
tick true = 1

-- in how many of the passes the entry of this number stands
abbrev pub has_entry : ℕ → List Entry → Bool
has_entry k [] = false
has_entry k (e ∷ es) = nat_eq e.number k || has_entry k es

abbrev pub holders : ℕ → List Passing → ℕ
holders k [] = 0
holders k (p ∷ ps) = tick (has_entry k p.entries) + holders k ps

-- the places that it keeps after this event
abbrev pub owed_after : Event → List Entry → ℕ
owed_after event entries = cond (is_stop event || has_stop entries) 0 1 + cond (is_sight event || has_sight entries) 0 1
