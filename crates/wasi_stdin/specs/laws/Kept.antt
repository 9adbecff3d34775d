-- What every rule of the shared input keeps.
use Rattle.std.specs.Prelude.{◌≡◌, ℕ, zero, suc, ◌+◌, ◌≤◌, min, max, Bool, true, false, cond, nat_lt, List, [], ◌∷◌, drop, Option, Some, None, refl}
use Rattle.std.proofs.Common.{sym, ◌∙◌, ap, subst, arith}
use Rattle.wasi_base.specs.declared.io_kind.IoKind.{IoKind}
use Rattle.wasi_base.specs.declared.io_kind.IoKind.TheVariants as kind
use Rattle.wasi_base.specs.Source.{Given, MayGive, bytes_given}
use Rattle.wasi_base.specs.Source as given
use Rattle.wasi_stdin.specs.declared.mode.Mode.{Mode}
use Rattle.wasi_stdin.specs.declared.mode.Mode.TheVariants.{Idle, Asked, Held, Failed, Closed}
use Rattle.wasi_stdin.specs.Shared.{Shared, IsSound, HoldsIn, CapturedIn, mode_holding, after_in, after_meeting, meeting_of, met_in, wait_of, reading, told_fault, polling, after_read, is_waiting, asked_by_ready, ready_in, is_ready, after_ready, capture_at, captured_by, delivered, mode_given}
use Rattle.wasi_stdin.specs.Shared as told
use Rattle.wasi_stdin.specs.Rules.{Rule, Read, Skip, PollRead, Ready, Block, Capture, Deliver, after_rule, MayFollow, IsAsked, IsWait, StaysSound, EveryRuleKeeps, after_rules, IsNoDelivery, HaveNoDelivery, RequestsOnlyGrow, faults_read, faults_polled, faults_told, faults_given, faults_delivered, all_faults_told, all_faults_delivered, new_shared, FaultsToldOnce}

pub asked_any : (c : Option ℕ) (n k : ℕ) → CapturedIn (Asked n) c → CapturedIn (Asked k) c
asked_any None n k h = tt
asked_any (Some size) n k h = h

pub asked_none : (c : Option ℕ) (k : ℕ) → c ≡ None → CapturedIn (Asked k) c
asked_none None k h = tt
asked_none (Some size) k h = absurd (cc)

holding_sound : (held : List ℕ) (c : Option ℕ) (d : ℕ) → c ≡ None → IsSound (record { mode = mode_holding held; held = held; captured = c; deliveries = d })
holding_sound [] c d h = record { holds = refl; captures = h }
holding_sound (b ∷ bytes) c d h = record { holds = omega arith; captures = h }

-- one who asks for bytes
in_sound : (m : Mode) (s : Shared) (size : ℕ) → HoldsIn m s.held → CapturedIn m s.captured → IsSound (after_in m s size)
in_sound Idle s size h c = record { holds = h; captures = asked_none s.captured size c }
in_sound (Asked n) s size h c = record { holds = h; captures = asked_any s.captured n (max n size) c }
in_sound Held s size h c = holding_sound (drop size s.held) s.captured s.deliveries c
in_sound (Failed kind) s size h c = record { holds = h; captures = c }
in_sound Closed s size h c = record { holds = h; captures = c }

meeting_sound : (s : Shared) (size : ℕ) → IsSound s → IsSound (after_meeting s size)
meeting_sound s size sound = in_sound s.mode s size sound.holds sound.captures

-- a wait that may stand stays one where the deliveries stay and what was asked is asked still
pub record KeepsAsking (before after : Shared) : Type 0 where
  pub deliveries : after.deliveries ≡ before.deliveries
  pub asked : IsAsked before.mode → IsAsked after.mode

waits_on : (before after : Shared) → KeepsAsking before after → (other : Option ℕ) → IsWait before other → IsWait after other
waits_on before after keeps None h = tt
waits_on before after keeps (Some since) h = (rw keeps.deliveries h.0, λ e. keeps.asked (h.1 (e ∙ keeps.deliveries)))

in_keeps : (m : Mode) (s : Shared) (size : ℕ) → ((after_in m s size).deliveries ≡ s.deliveries) × (IsAsked m → IsAsked (after_in m s size).mode)
in_keeps Idle s size = (refl, λ a. tt)
in_keeps (Asked n) s size = (refl, λ a. tt)
in_keeps Held s size = (refl, λ a. absurd a)
in_keeps (Failed kind) s size = (refl, λ a. absurd a)
in_keeps Closed s size = (refl, λ a. absurd a)

meeting_keeps : (s : Shared) (size : ℕ) → KeepsAsking s (after_meeting s size)
meeting_keeps s size = let k = in_keeps s.mode s size in record { deliveries = k.0; asked = k.1 }

stays : (s : Shared) → KeepsAsking s s
stays s = record { deliveries = refl; asked = λ a. a }

read_sound : (s : Shared) (size : ℕ) → IsSound s → IsSound (after_read s size)
read_sound s zero sound = sound
read_sound s (suc n) sound = meeting_sound s (suc n) sound

read_keeps : (s : Shared) (size : ℕ) → KeepsAsking s (after_read s size)
read_keeps s zero = stays s
read_keeps s (suc n) = meeting_keeps s (suc n)

-- the wait that a poll leaves, where it waited no more
in_wait : (m : Mode) (s : Shared) (size : ℕ) → IsWait (after_in m s size) (wait_of (met_in m s.held size) s.deliveries)
in_wait Idle s size = (omega arith, λ e. tt)
in_wait (Asked n) s size = (omega arith, λ e. tt)
in_wait Held s size = tt
in_wait (Failed kind) s size = tt
in_wait Closed s size = tt

poll_sound : (waiting : Bool) (s : Shared) (wait : Option ℕ) (room : ℕ) → IsSound s → IsWait s wait → IsSound (cond waiting s (after_meeting s room)) × IsWait (cond waiting s (after_meeting s room)) (cond waiting wait (wait_of (meeting_of s room) s.deliveries)) × KeepsAsking s (cond waiting s (after_meeting s room))
poll_sound true s wait room sound may = (sound, may, stays s)
poll_sound false s wait room sound may = (meeting_sound s room sound, in_wait s.mode s room, meeting_keeps s room)

ready_in_sound : (m : Mode) (held : List ℕ) (c : Option ℕ) (d : ℕ) → HoldsIn m held → CapturedIn m c → IsSound (record { mode = asked_by_ready m; held = held; captured = c; deliveries = d })
ready_in_sound Idle held c d h k = record { holds = h; captures = asked_none c 65536 k }
ready_in_sound (Asked n) held c d h k = record { holds = h; captures = k }
ready_in_sound Held held c d h k = record { holds = h; captures = k }
ready_in_sound (Failed kind) held c d h k = record { holds = h; captures = k }
ready_in_sound Closed held c d h k = record { holds = h; captures = k }

ready_sound : (s : Shared) → IsSound s → IsSound (after_ready s)
ready_sound s sound = ready_in_sound s.mode s.held s.captured s.deliveries sound.holds sound.captures

ready_asks : (m : Mode) → IsAsked m → IsAsked (asked_by_ready m)
ready_asks (Asked n) a = tt
ready_asks Idle a = absurd a
ready_asks Held a = absurd a
ready_asks (Failed kind) a = absurd a
ready_asks Closed a = absurd a

ready_keeps : (s : Shared) → KeepsAsking s (after_ready s)
ready_keeps s = record { deliveries = refl; asked = ready_asks s.mode }

-- the wait that a block leaves, where it had none
blocks_in : (m : Mode) (s : Shared) → IsWait (record { mode = asked_by_ready m; held = s.held; captured = s.captured; deliveries = s.deliveries }) (cond (ready_in m) None (Some s.deliveries))
blocks_in Idle s = (omega arith, λ e. tt)
blocks_in (Asked n) s = (omega arith, λ e. tt)
blocks_in Held s = tt
blocks_in (Failed kind) s = tt
blocks_in Closed s = tt

over_or_not : (over : Bool) (s : Shared) (since : ℕ) → IsWait s (Some since) → IsWait s (cond over None (Some since))
over_or_not true s since may = tt
over_or_not false s since may = may

block_sound : (s : Shared) (wait : Option ℕ) → IsSound s → IsWait s wait → StaysSound Block s wait
block_sound s None sound may = record { sound = ready_sound s sound; waits = blocks_in s.mode s; others = waits_on s (after_ready s) (ready_keeps s) }
block_sound s (Some since) sound may = record { sound = sound; waits = over_or_not (nat_lt since s.deliveries) s since may; others = λ other h. h }

capture_in_sound : (m : Mode) (c : Option ℕ) (s : Shared) → HoldsIn m s.held → CapturedIn m c → s.mode ≡ m → s.captured ≡ c → IsSound s → IsSound (captured_by (capture_at m c) s) × KeepsAsking s (captured_by (capture_at m c) s)
capture_in_sound Idle c s h k mode_is captured_is sound = (sound, stays s)
capture_in_sound (Asked n) None s h k mode_is captured_is sound = (record { holds = sound.holds; captures = subst (λ m. CapturedIn m (Some (max 1 (min n 65536)))) (sym mode_is) (omega arith, omega arith) }, record { deliveries = refl; asked = λ a. a })
capture_in_sound (Asked n) (Some size) s h k mode_is captured_is sound = (sound, stays s)
capture_in_sound Held c s h k mode_is captured_is sound = (sound, stays s)
capture_in_sound (Failed kind) c s h k mode_is captured_is sound = (sound, stays s)
capture_in_sound Closed c s h k mode_is captured_is sound = (sound, stays s)

-- a delivery ends every wait that may stand
deliver_waits : (g : Given) (s : Shared) (other : Option ℕ) → IsWait s other → IsWait (delivered s g) other
deliver_waits g s None h = tt
deliver_waits g s (Some since) h = (omega (arith, h.0), λ e. absurd (omega (arith, h.0, e)))

given_sound : (g : Given) (size d : ℕ) → MayGive size g → IsSound (record { mode = mode_given g; held = bytes_given g; captured = None; deliveries = d })
given_sound (given.Bytes bytes) size d may = record { holds = omega (arith, may.0); captures = refl }
given_sound given.End size d may = record { holds = refl; captures = refl }
given_sound (given.Fault kind) size d may = record { holds = refl; captures = refl }

deliver_sound : (g : Given) (s : Shared) (captured : Option ℕ) (d : ℕ) → MayFollow (Deliver g) (record { mode = s.mode; held = s.held; captured = captured; deliveries = s.deliveries }) → IsSound (record { mode = mode_given g; held = bytes_given g; captured = None; deliveries = d })
deliver_sound g s None d may = absurd may
deliver_sound g s (Some size) d may = given_sound g size d may

pub every_rule_keeps : EveryRuleKeeps
every_rule_keeps (Read size) s wait sound may follows = record { sound = read_sound s size sound; waits = waits_on s (after_read s size) (read_keeps s size) wait may; others = waits_on s (after_read s size) (read_keeps s size) }
every_rule_keeps (Skip size) s wait sound may follows = record { sound = read_sound s size sound; waits = waits_on s (after_read s size) (read_keeps s size) wait may; others = waits_on s (after_read s size) (read_keeps s size) }
every_rule_keeps (PollRead room) s wait sound may follows = let p = poll_sound (is_waiting wait s.deliveries) s wait room sound may in record { sound = p.0; waits = p.1; others = waits_on s (after_rule (PollRead room) s wait) p.2 }
every_rule_keeps Ready s wait sound may follows = record { sound = ready_sound s sound; waits = waits_on s (after_ready s) (ready_keeps s) wait may; others = waits_on s (after_ready s) (ready_keeps s) }
every_rule_keeps Block s wait sound may follows = block_sound s wait sound may
every_rule_keeps Capture s wait sound may follows = let c = capture_in_sound s.mode s.captured s sound.holds sound.captures refl refl sound in record { sound = c.0; waits = waits_on s (after_rule Capture s wait) c.1 wait may; others = waits_on s (after_rule Capture s wait) c.1 }
every_rule_keeps (Deliver g) s wait sound may follows = record { sound = deliver_sound g s s.captured (s.deliveries + 1) follows; waits = deliver_waits g s wait may; others = deliver_waits g s }

-- something is asked while a size is captured
pub asked_at : (m : Mode) (c : Option ℕ) (size : ℕ) → CapturedIn m c → c ≡ Some size → (n : ℕ) × (m ≡ Asked n)
asked_at (Asked n) c size k e = (n, refl)
asked_at Idle c size k e = absurd (cc)
asked_at Held c size k e = absurd (cc)
asked_at (Failed kind) c size k e = absurd (cc)
asked_at Closed c size k e = absurd (cc)

-- as much is asked for as n, or more, and what is captured stays
abbrev Asks : Shared → ℕ → Shared → Type 0
Asks before n after = (k : ℕ) × (after.mode ≡ Asked k) × (n ≤ k) × (after.captured ≡ before.captured)

asks_still : (s : Shared) (n : ℕ) → s.mode ≡ Asked n → Asks s n s
asks_still s n e = (n, e, omega arith, refl)

in_asks : (m : Mode) (s : Shared) (size n : ℕ) → m ≡ Asked n → Asks s n (after_in m s size)
in_asks (Asked p) s size n e = let same : p ≡ n = cc in (max p size, refl, omega (arith, same), refl)
in_asks Idle s size n e = absurd (cc)
in_asks Held s size n e = absurd (cc)
in_asks (Failed kind) s size n e = absurd (cc)
in_asks Closed s size n e = absurd (cc)

read_asks : (s : Shared) (size n : ℕ) → s.mode ≡ Asked n → Asks s n (after_read s size)
read_asks s zero n e = asks_still s n e
read_asks s (suc size) n e = in_asks s.mode s (suc size) n e

poll_asks : (waiting : Bool) (s : Shared) (room n : ℕ) → s.mode ≡ Asked n → Asks s n (cond waiting s (after_meeting s room))
poll_asks true s room n e = asks_still s n e
poll_asks false s room n e = in_asks s.mode s room n e

ready_asks_still : (s : Shared) (n : ℕ) → s.mode ≡ Asked n → Asks s n (after_ready s)
ready_asks_still s n e = (n, ap asked_by_ready e, omega arith, refl)

block_asks : (s : Shared) (wait : Option ℕ) (n : ℕ) → s.mode ≡ Asked n → Asks s n (after_rule Block s wait)
block_asks s None n e = ready_asks_still s n e
block_asks s (Some since) n e = asks_still s n e

-- no second size is captured
captures_none : (m : Mode) (c : Option ℕ) (size : ℕ) → c ≡ Some size → capture_at m c ≡ None
captures_none (Asked n) None size e = absurd (cc)
captures_none (Asked n) (Some c) size e = refl
captures_none Idle c size e = refl
captures_none Held c size e = refl
captures_none (Failed kind) c size e = refl
captures_none Closed c size e = refl

capture_asks : (s : Shared) (size n : ℕ) → s.mode ≡ Asked n → s.captured ≡ Some size → Asks s n (after_rule Capture s None)
capture_asks s size n e captured = subst (λ c. Asks s n (captured_by c s)) (sym (captures_none s.mode s.captured size captured)) (asks_still s n e)

rule_asks : (rule : Rule) (s : Shared) (wait : Option ℕ) (size n : ℕ) → s.mode ≡ Asked n → s.captured ≡ Some size → IsNoDelivery rule → Asks s n (after_rule rule s wait)
rule_asks (Read r) s wait size n e captured held_off = read_asks s r n e
rule_asks (Skip r) s wait size n e captured held_off = read_asks s r n e
rule_asks (PollRead r) s wait size n e captured held_off = poll_asks (is_waiting wait s.deliveries) s r n e
rule_asks Ready s wait size n e captured held_off = ready_asks_still s n e
rule_asks Block s wait size n e captured held_off = block_asks s wait n e
rule_asks Capture s wait size n e captured held_off = capture_asks s size n e captured
rule_asks (Deliver g) s wait size n e captured held_off = absurd held_off

rules_ask : (rules : List (Rule × Option ℕ)) (s : Shared) (size n : ℕ) → s.mode ≡ Asked n → s.captured ≡ Some size → HaveNoDelivery rules → Asks s n (after_rules rules s)
rules_ask [] s size n e captured none = asks_still s n e
rules_ask (next ∷ rules) s size n e captured none =
    let one = rule_asks next.0 s next.1 size n e captured none.0 in
    let rest = rules_ask rules (after_rule next.0 s next.1) size one.0 one.1 (one.3 ∙ captured) none.1 in
    (rest.0, rest.1, omega (arith, one.2, rest.2), rest.3 ∙ one.3)

pub requests_only_grow : RequestsOnlyGrow
requests_only_grow rules s size sound captured none =
    let at = asked_at s.mode s.captured size sound.captures captured in
    let asks = rules_ask rules s size at.0 at.1 captured none in
    record { captured = asks.3; first = at.0; asked = at.1; last = asks.0; asks = asks.1; grows = asks.2 }

-- a fault that nobody was told
abbrev untold : Mode → ℕ
untold Idle = 0
untold (Asked n) = 0
untold Held = 0
untold (Failed kind) = 1
untold Closed = 0

untold_holding : (bytes : List ℕ) → untold (mode_holding bytes) ≡ 0
untold_holding [] = refl
untold_holding (b ∷ bytes) = refl

one_at_most : (kind : IoKind) → faults_read (told_fault kind) ≤ 1
one_at_most kind.BrokenPipe = omega arith
one_at_most kind = omega arith

in_reads : (m : Mode) (s : Shared) (size : ℕ) → faults_read (reading (met_in m s.held size)) + untold (after_in m s size).mode ≤ untold m
in_reads Idle s size = omega arith
in_reads (Asked n) s size = omega arith
in_reads Held s size = rw (untold_holding (drop size s.held)) (omega arith)
in_reads (Failed kind) s size = omega (arith, one_at_most kind)
in_reads Closed s size = omega arith

in_polls : (m : Mode) (s : Shared) (room : ℕ) → faults_polled (polling (met_in m s.held room)) + untold (after_in m s room).mode ≤ untold m
in_polls Idle s room = omega arith
in_polls (Asked n) s room = omega arith
in_polls Held s room = rw (untold_holding (drop room s.held)) (omega arith)
in_polls (Failed kind) s room = omega arith
in_polls Closed s room = omega arith

read_tells : (s : Shared) (size : ℕ) → faults_told (Read size) s None + untold (after_read s size).mode ≤ untold s.mode
read_tells s zero = omega arith
read_tells s (suc size) = in_reads s.mode s (suc size)

poll_tells : (waiting : Bool) (s : Shared) (room : ℕ) → faults_polled (cond waiting told.Pending (polling (meeting_of s room))) + untold (cond waiting s (after_meeting s room)).mode ≤ untold s.mode
poll_tells true s room = omega arith
poll_tells false s room = in_polls s.mode s room

ready_tells : (m : Mode) → untold (asked_by_ready m) ≡ untold m
ready_tells Idle = refl
ready_tells (Asked n) = refl
ready_tells Held = refl
ready_tells (Failed kind) = refl
ready_tells Closed = refl

block_tells : (s : Shared) (wait : Option ℕ) → untold (after_rule Block s wait).mode ≡ untold s.mode
block_tells s None = ready_tells s.mode
block_tells s (Some since) = refl

captured_mode : (c : Option ℕ) (s : Shared) → (captured_by c s).mode ≡ s.mode
captured_mode None s = refl
captured_mode (Some size) s = refl

given_untold : (g : Given) → untold (mode_given g) ≡ faults_given g
given_untold (given.Bytes bytes) = refl
given_untold given.End = refl
given_untold (given.Fault kind) = refl

rule_tells : (rule : Rule) (s : Shared) (wait : Option ℕ) → faults_told rule s wait + untold (after_rule rule s wait).mode ≤ untold s.mode + faults_delivered rule
rule_tells (Read size) s wait = omega (arith, read_tells s size)
rule_tells (Skip size) s wait = omega (arith, read_tells s size)
rule_tells (PollRead room) s wait = omega (arith, poll_tells (is_waiting wait s.deliveries) s room)
rule_tells Ready s wait = omega (arith, ready_tells s.mode)
rule_tells Block s wait = omega (arith, block_tells s wait)
rule_tells Capture s wait = omega (arith, ap untold (captured_mode (capture_at s.mode s.captured) s))
rule_tells (Deliver g) s wait = omega (arith, given_untold g)

rules_tell : (rules : List (Rule × Option ℕ)) (s : Shared) → all_faults_told rules s ≤ untold s.mode + all_faults_delivered rules
rules_tell [] s = omega arith
rules_tell (next ∷ rules) s = omega (arith, rule_tells next.0 s next.1, rules_tell rules (after_rule next.0 s next.1))

pub faults_told_once : FaultsToldOnce
faults_told_once rules = omega (arith, rules_tell rules new_shared)
