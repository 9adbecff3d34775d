-- Who has the turn of a shared stream, and who waits for it, the first to get it first.
use Rattle.std.specs.Prelude.{◌≡◌, ℕ, ◌==◌, Bool, true, false, not, ◌&&◌, if◌then◌else◌, List, [], ◌∷◌, ◌++◌, Option, Some, None, IfSome, IfNone}
use Rattle.std.specs.List.{filter, list_any}
use Rattle.wasi_cli.specs.declared.owner.Owner.{Owner}

pub record Turn : Type 0 where
  pub holder : Option Owner
  pub waiting : List Owner

abbrev pub same : Owner → Owner → Bool
same a b = (a.guest == b.guest) && (a.number == b.number)

abbrev pub is_waiting : Owner → List Owner → Bool
is_waiting who waiting = list_any (λ other. same other who) waiting

abbrev pub without : Owner → List Owner → List Owner
without who waiting = filter (λ other. not (same other who)) waiting

abbrev pub NoRepeats : List Owner → Type 0
NoRepeats [] = Unit {0}
NoRepeats (who ∷ waiting) = (is_waiting who waiting ≡ false) × NoRepeats waiting

-- nobody waits twice or while holding the turn, and nobody waits where nobody holds it
pub record IsTurn (turn : Turn) : Type 0 where
  pub once : NoRepeats turn.waiting
  pub apart : IfSome turn.holder (λ holder. is_waiting holder turn.waiting ≡ false)
  pub held : IfNone turn.holder (turn.waiting ≡ [])

-- who asks has the turn where it had it before or nobody did
abbrev pub gets_turn : Option Owner → Owner → Bool
gets_turn None who = true
gets_turn (Some holder) who = same holder who

-- else it waits at the end, once
abbrev pub joined : List Owner → Owner → List Owner
joined waiting who = if is_waiting who waiting then waiting else waiting ++ who ∷ []

abbrev pub after_ask_by : Option Owner → List Owner → Owner → Turn
after_ask_by None waiting who = record { holder = Some who; waiting = waiting }
after_ask_by (Some holder) waiting who = record { holder = Some holder; waiting = if same holder who then waiting else joined waiting who }

abbrev pub after_ask : Turn → Owner → Turn
after_ask turn who = after_ask_by turn.holder turn.waiting who

-- the first that waits has the turn next
abbrev pub passed : List Owner → Turn
passed [] = record { holder = None; waiting = [] }
passed (next ∷ waiting) = record { holder = Some next; waiting = waiting }

abbrev pub after_free_by : Option Owner → List Owner → Owner → Turn
after_free_by None waiting who = record { holder = None; waiting = waiting }
after_free_by (Some holder) waiting who = if same holder who then passed waiting else record { holder = Some holder; waiting = without who waiting }

abbrev pub after_free : Turn → Owner → Turn
after_free turn who = after_free_by turn.holder turn.waiting who

-- a guest that ends gives up its turn, and each of its places among those that wait
abbrev pub without_guest : ℕ → List Owner → List Owner
without_guest guest waiting = filter (λ other. not (other.guest == guest)) waiting

abbrev pub after_end_by : Option Owner → List Owner → ℕ → Turn
after_end_by None waiting guest = record { holder = None; waiting = without_guest guest waiting }
after_end_by (Some holder) waiting guest = if holder.guest == guest then passed (without_guest guest waiting) else record { holder = Some holder; waiting = without_guest guest waiting }

abbrev pub after_end : Turn → ℕ → Turn
after_end turn guest = after_end_by turn.holder turn.waiting guest
