-- The history of the shared input, and what its entries come to when they are replayed.
use Rattle.std.specs.Prelude.{◌≡◌, ℕ, ◌+◌, ◌<◌, ◌≤◌, Bool, true, false, ◌||◌, ◌&&◌, not, cond, List, [], ◌∷◌, ◌++◌, length, set, slice_get, Option, Some, None, IsSomeAnd, IsSome}
use Rattle.wasi_stdin.specs.declared.mode.Mode.TheVariants.{Idle}
use Rattle.wasi_stdin.specs.Shared.{Shared, Reading, Bytes, Ended, Fault, bytes_read, Polling, Polled, Pending, PollFault, bytes_polled, reading_of, after_read, is_ready, after_ready, block_of, after_block, wait_after_block, is_waiting, poll_of, after_poll, wait_after_poll, capture_of, after_capture, delivered, outcome_given, FitsOutcome}
use Rattle.wasi_threads.specs.declared.entry.Entry.{Entry}
use Rattle.wasi_threads.specs.declared.entry.Event.{Event}
use Rattle.wasi_threads.specs.declared.entry.Event.TheVariants.{Join, Read, Skip, Ready, Block, PollRead, WaitOver, Capture, Deliver, Stop, SawStop}
use Rattle.wasi_threads.specs.declared.entry.Kept.{Kept}
use Rattle.wasi_threads.specs.declared.entry.Kept.TheVariants as kept

-- what stands behind the lock: the shared input, for each pass that joined whether it stopped, and whether the worker saw a stop
pub record Standing : Type 0 where
  pub shared : Shared
  pub stops : List Bool
  pub saw : Bool

abbrev pub opening : Standing
opening = record { shared = record { mode = Idle; held = []; captured = None; deliveries = 0 }; stops = []; saw = false }

abbrev pub is_any : List Bool → Bool
is_any [] = false
is_any (b ∷ bs) = b || is_any bs

-- what an entry keeps of an answer
abbrev pub kept_reading : Reading → Kept
kept_reading (Bytes bytes) = kept.Count (length bytes)
kept_reading Ended = kept.Closed
kept_reading (Fault kind) = kept.Failed kind

abbrev pub kept_polling : Polling → Kept
kept_polling (Polled bytes) = kept.Count (length bytes)
kept_polling Pending = kept.Pending
kept_polling (PollFault kind) = kept.Failed kind

abbrev pub kept_size : Option ℕ → Kept
kept_size None = kept.None
kept_size (Some size) = kept.Count size

-- a wait is over where it waits for nothing, or its number is below the count of deliveries
abbrev pub is_over : Option ℕ → Shared → Bool
is_over wait s = not (is_waiting wait s.deliveries)

abbrev pub answer_to : Event → Standing → Kept
answer_to Join s = kept.None
answer_to (Read size) s = kept_reading (reading_of s.shared size)
answer_to (Skip size) s = kept_reading (reading_of s.shared size)
answer_to Ready s = kept.Flag (is_ready s.shared)
answer_to (Block wait) s = kept.Flag (block_of s.shared wait)
answer_to (PollRead wait room) s = kept_polling (poll_of s.shared wait room)
answer_to (WaitOver wait) s = kept.Flag (is_over wait s.shared)
answer_to Capture s = kept_size (capture_of s.shared)
answer_to (Deliver outcome) s = kept.None
answer_to Stop s = kept.None
answer_to SawStop s = kept.None

-- the bytes that are handed out or skipped; for a delivery those that were given
abbrev pub bytes_to : Event → List ℕ → Standing → List ℕ
bytes_to Join given s = []
bytes_to (Read size) given s = bytes_read (reading_of s.shared size)
bytes_to (Skip size) given s = bytes_read (reading_of s.shared size)
bytes_to Ready given s = []
bytes_to (Block wait) given s = []
bytes_to (PollRead wait room) given s = bytes_polled (poll_of s.shared wait room)
bytes_to (WaitOver wait) given s = []
bytes_to Capture given s = []
bytes_to (Deliver outcome) given s = given
bytes_to Stop given s = []
bytes_to SawStop given s = []

-- the wait that a call leaves
abbrev pub wait_to : Event → Standing → Option ℕ
wait_to Join s = None
wait_to (Read size) s = None
wait_to (Skip size) s = None
wait_to Ready s = None
wait_to (Block wait) s = wait_after_block s.shared wait
wait_to (PollRead wait room) s = wait_after_poll s.shared wait room
wait_to (WaitOver wait) s = None
wait_to Capture s = None
wait_to (Deliver outcome) s = None
wait_to Stop s = None
wait_to SawStop s = None

-- the entry of an event
abbrev pub entry_for : ℕ → ℕ → Event → List ℕ → Standing → Entry
entry_for n pass event given s = record { number = n; pass = pass; event = event; answer = answer_to event s; bytes = bytes_to event given s; wait = wait_to event s }

abbrev pub with_shared : Standing → Shared → Standing
with_shared s shared = record { shared = shared; stops = s.stops; saw = s.saw }

-- what stands after an event
abbrev pub after_event : Event → ℕ → List ℕ → Standing → Standing
after_event Join pass given s = record { shared = s.shared; stops = s.stops ++ false ∷ []; saw = s.saw }
after_event (Read size) pass given s = with_shared s (after_read s.shared size)
after_event (Skip size) pass given s = with_shared s (after_read s.shared size)
after_event Ready pass given s = with_shared s (after_ready s.shared)
after_event (Block wait) pass given s = with_shared s (after_block s.shared wait)
after_event (PollRead wait room) pass given s = with_shared s (after_poll s.shared wait room)
after_event (WaitOver wait) pass given s = s
after_event Capture pass given s = with_shared s (after_capture s.shared)
after_event (Deliver outcome) pass given s = with_shared s (delivered s.shared (outcome_given outcome given))
after_event Stop pass given s = record { shared = s.shared; stops = set s.stops pass true; saw = s.saw }
after_event SawStop pass given s = record { shared = s.shared; stops = s.stops; saw = true }

-- which events may stand
abbrev pub MayStand : Event → ℕ → List ℕ → Standing → Type 0
MayStand Join pass given s = pass ≡ length s.stops
MayStand (Read size) pass given s = (pass < length s.stops) × (0 < size)
MayStand (Skip size) pass given s = (pass < length s.stops) × (0 < size)
MayStand Ready pass given s = pass < length s.stops
MayStand (Block wait) pass given s = pass < length s.stops
MayStand (PollRead wait room) pass given s = pass < length s.stops
MayStand (WaitOver wait) pass given s = (pass < length s.stops) × (is_over wait s.shared || is_any s.stops ≡ true)
MayStand Capture pass given s = (pass < length s.stops) × (pass ≡ 0) × (is_any s.stops ≡ false) × IsSome (capture_of s.shared)
MayStand (Deliver outcome) pass given s = (pass < length s.stops) × (pass ≡ 0) × IsSomeAnd s.shared.captured (λ size. FitsOutcome outcome given size)
MayStand Stop pass given s = slice_get s.stops pass ≡ Some false
MayStand SawStop pass given s = (pass < length s.stops) × (pass ≡ 0) × (is_any s.stops ≡ true) × (s.saw ≡ false) × (s.shared.captured ≡ None)

-- one entry at its place
pub record IsLegal (n : ℕ) (s : Standing) (e : Entry) : Type 0 where
  pub is : e ≡ entry_for n e.pass e.event e.bytes s
  pub may : MayStand e.event e.pass e.bytes s

abbrev pub after_entry : Entry → Standing → Standing
after_entry e s = after_event e.event e.pass e.bytes s

abbrev pub AreLegal : ℕ → Standing → List Entry → Type 0
AreLegal n s [] = Unit {0}
AreLegal n s (e ∷ es) = IsLegal n s e × AreLegal (n + 1) (after_entry e s) es

abbrev pub replayed : Standing → List Entry → Standing
replayed s [] = s
replayed s (e ∷ es) = replayed (after_entry e s) es

-- a history replays to what stands
pub record Replays (history : List Entry) (now : Standing) : Type 0 where
  pub legal : AreLegal 0 opening history
  pub ends : replayed opening history ≡ now

-- the locked state
pub record Locked : Type 0 where
  pub now : Standing
  pub history : List Entry

-- how many passes have not stopped
abbrev pub unstopped : List Bool → ℕ
unstopped [] = 0
unstopped (true ∷ bs) = unstopped bs
unstopped (false ∷ bs) = 1 + unstopped bs

abbrev pub for_capture : Option ℕ → ℕ
for_capture None = 0
for_capture (Some size) = 1

-- the places that stay reserved: a stop of each pass, a delivery, and one sight of a stop
abbrev pub owed : Standing → ℕ
owed s = unstopped s.stops + for_capture s.shared.captured + cond s.saw 0 1

pub record IsKept (s : Standing) (history : List Entry) (total rest capacity : ℕ) (stopped : Bool) (places : ℕ) : Type 0 where
  pub replays : Replays history s
  pub counted : length history ≡ total
  pub parts : rest + length s.stops ≡ 9223372036854775807
  pub any : stopped ≡ is_any s.stops
  pub owes : places ≡ owed s
  pub room : length history + places ≤ capacity

-- the number of the last entry, and its bytes
abbrev pub last_number : List Entry → ℕ
last_number [] = 0
last_number (e ∷ []) = e.number
last_number (e ∷ f ∷ es) = last_number (f ∷ es)

abbrev pub last_bytes : List Entry → List ℕ
last_bytes [] = []
last_bytes (e ∷ []) = e.bytes
last_bytes (e ∷ f ∷ es) = last_bytes (f ∷ es)

abbrev pub is_none : Option ℕ → Bool
is_none None = true
is_none (Some n) = false

-- a request stands, and no stop
abbrev pub has_work_in : Standing → Bool
has_work_in s = not (is_none (capture_of s.shared)) && not (is_any s.stops)

-- a stop stands that the worker may see
abbrev pub may_see_in : Standing → Bool
may_see_in s = is_any s.stops && not s.saw && is_none s.shared.captured
