-- The table's rules as one: what may happen to the shared input, what always holds of it, and what callers rely on.
use Rattle.std.specs.Prelude.{◌≡◌, ℕ, ◌+◌, ◌≤◌, List, [], ◌∷◌, Option, Some, None, IsSomeAnd}
use Rattle.wasi_base.specs.Source.{Given, MayGive}
use Rattle.wasi_base.specs.Source as given
use Rattle.wasi_stdin.specs.declared.mode.Mode.{Mode}
use Rattle.wasi_stdin.specs.declared.mode.Mode.TheVariants.{Idle, Asked, Held, Failed, Closed}
use Rattle.wasi_stdin.specs.Shared.{Shared, Reading, Polling, IsSound, reading_of, after_read, poll_of, after_poll, wait_after_poll, after_ready, after_block, wait_after_block, after_capture, delivered}
use Rattle.wasi_stdin.specs.Shared as told

-- a call, of which some go by a wait, or one of the worker's two halves
pub data Rule : Type 0 where
  Read : ℕ → Rule
  Skip : ℕ → Rule
  PollRead : ℕ → Rule
  Ready : Rule
  Block : Rule
  Capture : Rule
  Deliver : Given → Rule

-- what it leaves of the shared input ..
abbrev pub after_rule : Rule → Shared → Option ℕ → Shared
after_rule (Read size) s wait = after_read s size
after_rule (Skip size) s wait = after_read s size
after_rule (PollRead room) s wait = after_poll s wait room
after_rule Ready s wait = after_ready s
after_rule Block s wait = after_block s wait
after_rule Capture s wait = after_capture s
after_rule (Deliver g) s wait = delivered s g

-- .. and of the wait that it goes by
abbrev pub wait_after_rule : Rule → Shared → Option ℕ → Option ℕ
wait_after_rule (Read size) s wait = wait
wait_after_rule (Skip size) s wait = wait
wait_after_rule (PollRead room) s wait = wait_after_poll s wait room
wait_after_rule Ready s wait = wait
wait_after_rule Block s wait = wait_after_block s wait
wait_after_rule Capture s wait = wait
wait_after_rule (Deliver g) s wait = wait

-- a delivery is of a captured size, and of what one read of that size may give
abbrev pub MayFollow : Rule → Shared → Type 0
MayFollow (Read size) s = Unit {0}
MayFollow (Skip size) s = Unit {0}
MayFollow (PollRead room) s = Unit {0}
MayFollow Ready s = Unit {0}
MayFollow Block s = Unit {0}
MayFollow Capture s = Unit {0}
MayFollow (Deliver g) s = IsSomeAnd s.captured (λ size. MayGive size g)

abbrev pub IsAsked : Mode → Type 0
IsAsked Idle = ⊥
IsAsked (Asked n) = Unit {0}
IsAsked Held = ⊥
IsAsked (Failed kind) = ⊥
IsAsked Closed = ⊥

-- a wait is at most the count of deliveries, and where it is that count something is asked
abbrev pub IsWait : Shared → Option ℕ → Type 0
IsWait s None = Unit {0}
IsWait s (Some since) = (since ≤ s.deliveries) × (since ≡ s.deliveries → IsAsked s.mode)

-- the shared input stays sound, and so do the wait that the rule goes by and every other
pub record StaysSound (rule : Rule) (s : Shared) (wait : Option ℕ) : Type 0 where
  pub sound : IsSound (after_rule rule s wait)
  pub waits : IsWait (after_rule rule s wait) (wait_after_rule rule s wait)
  pub others : (other : Option ℕ) → IsWait s other → IsWait (after_rule rule s wait) other

abbrev pub EveryRuleKeeps : Type 0
EveryRuleKeeps = (rule : Rule) (s : Shared) (wait : Option ℕ) → IsSound s → IsWait s wait → MayFollow rule s → StaysSound rule s wait

-- rules one after the other, each with the wait that it goes by
abbrev pub after_rules : List (Rule × Option ℕ) → Shared → Shared
after_rules [] s = s
after_rules (next ∷ rules) s = after_rules rules (after_rule next.0 s next.1)

abbrev pub IsNoDelivery : Rule → Type 0
IsNoDelivery (Read size) = Unit {0}
IsNoDelivery (Skip size) = Unit {0}
IsNoDelivery (PollRead room) = Unit {0}
IsNoDelivery Ready = Unit {0}
IsNoDelivery Block = Unit {0}
IsNoDelivery Capture = Unit {0}
IsNoDelivery (Deliver g) = ⊥

abbrev pub HaveNoDelivery : List (Rule × Option ℕ) → Type 0
HaveNoDelivery [] = Unit {0}
HaveNoDelivery (next ∷ rules) = IsNoDelivery next.0 × HaveNoDelivery rules

-- the same size stays captured, and as much is asked for as before, or more
pub record StaysCaptured (before after : Shared) : Type 0 where
  pub captured : after.captured ≡ before.captured
  pub first : ℕ
  pub asked : before.mode ≡ Asked first
  pub last : ℕ
  pub asks : after.mode ≡ Asked last
  pub grows : first ≤ last

-- until its delivery
abbrev pub RequestsOnlyGrow : Type 0
RequestsOnlyGrow = (rules : List (Rule × Option ℕ)) (s : Shared) (size : ℕ) → IsSound s → s.captured ≡ Some size → HaveNoDelivery rules → StaysCaptured s (after_rules rules s)

abbrev pub faults_read : Reading → ℕ
faults_read (told.Bytes bytes) = 0
faults_read told.Ended = 0
faults_read (told.Fault kind) = 1

abbrev pub faults_polled : Polling → ℕ
faults_polled (told.Polled bytes) = 0
faults_polled told.Pending = 0
faults_polled (told.PollFault kind) = 1

-- how many faults a rule tells
abbrev pub faults_told : Rule → Shared → Option ℕ → ℕ
faults_told (Read size) s wait = faults_read (reading_of s size)
faults_told (Skip size) s wait = faults_read (reading_of s size)
faults_told (PollRead room) s wait = faults_polled (poll_of s wait room)
faults_told Ready s wait = 0
faults_told Block s wait = 0
faults_told Capture s wait = 0
faults_told (Deliver g) s wait = 0

abbrev pub faults_given : Given → ℕ
faults_given (given.Bytes bytes) = 0
faults_given given.End = 0
faults_given (given.Fault kind) = 1

-- how many it delivers
abbrev pub faults_delivered : Rule → ℕ
faults_delivered (Read size) = 0
faults_delivered (Skip size) = 0
faults_delivered (PollRead room) = 0
faults_delivered Ready = 0
faults_delivered Block = 0
faults_delivered Capture = 0
faults_delivered (Deliver g) = faults_given g

abbrev pub all_faults_told : List (Rule × Option ℕ) → Shared → ℕ
all_faults_told [] s = 0
all_faults_told (next ∷ rules) s = faults_told next.0 s next.1 + all_faults_told rules (after_rule next.0 s next.1)

abbrev pub all_faults_delivered : List (Rule × Option ℕ) → ℕ
all_faults_delivered [] = 0
all_faults_delivered (next ∷ rules) = faults_delivered next.0 + all_faults_delivered rules

abbrev pub new_shared : Shared
new_shared = record { mode = Idle; held = []; captured = None; deliveries = 0 }

-- a fault is told at most once for each that was delivered
abbrev pub FaultsToldOnce : Type 0
FaultsToldOnce = (rules : List (Rule × Option ℕ)) → all_faults_told rules new_shared ≤ all_faults_delivered rules
