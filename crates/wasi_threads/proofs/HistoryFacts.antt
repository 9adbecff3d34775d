-- One more entry.
use Rattle.std.proofs.Common.{◌≡◌, ℕ, ◌+◌, ◌≤◌, Bool, true, false, ◌||◌, List, [], ◌∷◌, ◌++◌, length, refl, arith, ◌∙◌, sym, ap, subst}
use Rattle.wasi_threads.specs.declared.entry.Entry.{Entry}
use Rattle.std.proofs.Common.{Option, Some, None, length-append, suc, zero}
use Rattle.wasi_threads.specs.History.{Standing, opening, IsLegal, AreLegal, after_entry, replayed, Replays, last_number, last_bytes, entry_for, MayStand, after_event, answer_to, bytes_to, wait_to, is_any, owed, IsKept}
use Rattle.wasi_threads.specs.declared.entry.Kept.{Kept}
use Rattle.wasi_threads.specs.Passes.{Passing, is_stop, is_sight, has_stop, has_sight}
use Rattle.wasi_threads.specs.Calls.{Gains}
use Rattle.wasi_stdin.specs.Shared.{Shared, after_in, after_meeting, after_read, after_block, after_poll, is_waiting, after_capture, capture_of, capture_at, captured_by}
use Rattle.std.specs.Prelude.{set, slice_get, IsSome, IsSomeAnd, cond}
use Rattle.wasi_threads.specs.History.{unstopped, for_capture}
use Rattle.wasi_threads.specs.declared.entry.Event.TheVariants as event
use Rattle.wasi_stdin.specs.declared.mode.Mode.{Mode}
use Rattle.wasi_stdin.specs.declared.mode.Mode.TheVariants.{Idle, Asked, Held, Failed, Closed}
use Rattle.wasi_threads.specs.declared.entry.Event.{Event}

pub replayed_more : (s : Standing) (es : List Entry) (e : Entry) → replayed s (es ++ e ∷ []) ≡ after_entry e (replayed s es)
replayed_more s [] e = refl
replayed_more s (x ∷ xs) e = replayed_more (after_entry x s) xs e

pub legal_more : (n : ℕ) (s : Standing) (es : List Entry) (e : Entry) → AreLegal n s es → IsLegal (n + length es) (replayed s es) e → AreLegal n s (es ++ e ∷ [])
legal_more n s [] e l h = (let same : n + 0 ≡ n = omega arith in subst (λ k. IsLegal k s e) same h, tt)
legal_more n s (x ∷ xs) e l h = (l.0, legal_more (n + 1) (after_entry x s) xs e l.1 (let same : n + length (x ∷ xs) ≡ n + 1 + length xs = omega arith in subst (λ k. IsLegal k (replayed (after_entry x s) xs) e) same h))

-- a legal entry more
pub replays_more : (es : List Entry) (s : Standing) (e : Entry) → Replays es s → IsLegal (length es) s e → Replays (es ++ e ∷ []) (after_entry e s)
replays_more es s e r h = record {
  legal = legal_more 0 opening es e r.legal (rw r.ends (let same : 0 + length es ≡ length es = omega arith in subst (λ k. IsLegal k s e) (sym same) h));
  ends = replayed_more opening es e ∙ ap (after_entry e) r.ends;
}

pub last_more : (es : List Entry) (e : Entry) → last_number (es ++ e ∷ []) ≡ e.number
last_more [] e = refl
last_more (x ∷ []) e = refl
last_more (x ∷ y ∷ es) e = last_more (y ∷ es) e

pub bytes_more : (es : List Entry) (e : Entry) → last_bytes (es ++ e ∷ []) ≡ e.bytes
bytes_more [] e = refl
bytes_more (x ∷ []) e = refl
bytes_more (x ∷ y ∷ es) e = bytes_more (y ∷ es) e

or_none : (b : Bool) → b || false ≡ b
or_none true = refl
or_none false = refl

or_swap : (a b c : Bool) → a || (b || c) ≡ b || (a || c)
or_swap true true c = refl
or_swap true false c = refl
or_swap false b c = refl

pub stop_more : (es : List Entry) (e : Entry) → has_stop (es ++ e ∷ []) ≡ is_stop e.event || has_stop es
stop_more [] e = refl
stop_more (x ∷ es) e = ap (λ b. is_stop x.event || b) (stop_more es e) ∙ or_swap (is_stop x.event) (is_stop e.event) (has_stop es)

pub sight_more : (es : List Entry) (e : Entry) → has_sight (es ++ e ∷ []) ≡ is_sight e.event || has_sight es
sight_more [] e = refl
sight_more (x ∷ es) e = ap (λ b. is_sight x.event || b) (sight_more es e) ∙ or_swap (is_sight x.event) (is_sight e.event) (has_sight es)

-- the entry that is added is the one of its event
entry_is : (s : Standing) (n number pass : ℕ) (event : Event) (answer : Kept) (bytes : List ℕ) (wait : Option ℕ) → number ≡ n → answer ≡ answer_to event s → bytes ≡ bytes_to event bytes s → wait ≡ wait_to event s → ◌≡◌ {A = Entry} (record { number = number; pass = pass; event = event; answer = answer; bytes = bytes; wait = wait }) (entry_for n pass event bytes s)
entry_is s n number pass event answer bytes wait hn ha hb hw = cc

-- one more event keeps the locked state
pub kept_next : (s s' : Standing) (h h' : List Entry) (total total' rest rest' cap cap' : ℕ) (stopped stopped' : Bool) (places places' : ℕ) (number pass : ℕ) (event : Event) (answer : Kept) (bytes : List ℕ) (wait : Option ℕ)
    → IsKept s h total rest cap stopped places → MayStand event pass bytes s
    → number ≡ length h → answer ≡ answer_to event s → bytes ≡ bytes_to event bytes s → wait ≡ wait_to event s
    → s' ≡ after_event event pass bytes s
    → h' ≡ h ++ record { number = number; pass = pass; event = event; answer = answer; bytes = bytes; wait = wait } ∷ []
    → total' ≡ total + 1 → rest' + length s'.stops ≡ 9223372036854775807 → stopped' ≡ is_any s'.stops → places' ≡ owed s' → length h + 1 + places' ≤ cap'
    → IsKept s' h' total' rest' cap' stopped' places'
kept_next s s' h h' total total' rest rest' cap cap' stopped stopped' places places' number pass event answer bytes wait kept may hn ha hb hw hs hh ht hr hst hp hc =
    let e : Entry = record { number = number; pass = pass; event = event; answer = answer; bytes = bytes; wait = wait } in
    let long : length h' ≡ length h + 1 = rw hh (omega (arith, length-append h (e ∷ []))) in
    let legal : IsLegal (length h) s e = record { is = entry_is s (length h) number pass event answer bytes wait hn ha hb hw; may = may } in
    record {
      replays = rw (hh, hs) (replays_more h s e kept.replays legal);
      counted = omega (arith, kept.counted);
      parts = hr;
      any = hst;
      owes = hp;
      room = omega arith;
    }

pub gains : (before after : Passing) (number : ℕ) (event : Event) (answer : Kept) (bytes : List ℕ) (wait : Option ℕ) → after.entries ≡ before.entries ++ record { number = number; pass = before.number; event = event; answer = answer; bytes = bytes; wait = wait } ∷ [] → after.number ≡ before.number → Gains before after event answer bytes wait
gains before after number event answer bytes wait h hn =
    let e : Entry = record { number = number; pass = before.number; event = event; answer = answer; bytes = bytes; wait = wait } in
    let last : last_number after.entries ≡ number = ap last_number h ∙ last_more before.entries e in
    record { entries = h ∙ ap (λ k. before.entries ++ record { number = k; pass = before.number; event = event; answer = answer; bytes = bytes; wait = wait } ∷ []) (sym last); number = hn }

in_captured : (m : Mode) (s : Shared) (size : ℕ) → (after_in m s size).captured ≡ s.captured
in_captured Idle s size = refl
in_captured (Asked n) s size = refl
in_captured Held s size = refl
in_captured (Failed kind) s size = refl
in_captured Closed s size = refl

pub read_captured : (s : Shared) (size : ℕ) → (after_read s size).captured ≡ s.captured
read_captured s zero = refl
read_captured s (suc n) = in_captured s.mode s (suc n)

polled_captured : (b : Bool) (s : Shared) (room : ℕ) → (cond b s (after_meeting s room)).captured ≡ s.captured
polled_captured true s room = refl
polled_captured false s room = in_captured s.mode s room

pub poll_captured : (s : Shared) (wait : Option ℕ) (room : ℕ) → (after_poll s wait room).captured ≡ s.captured
poll_captured s wait room = polled_captured (is_waiting wait s.deliveries) s room

-- the deliveries are events of the history
in_deliveries : (m : Mode) (s : Shared) (size : ℕ) → (after_in m s size).deliveries ≡ s.deliveries
in_deliveries Idle s size = refl
in_deliveries (Asked n) s size = refl
in_deliveries Held s size = refl
in_deliveries (Failed kind) s size = refl
in_deliveries Closed s size = refl

read_deliveries : (s : Shared) (size : ℕ) → (after_read s size).deliveries ≡ s.deliveries
read_deliveries s zero = refl
read_deliveries s (suc n) = in_deliveries s.mode s (suc n)

polled_deliveries : (b : Bool) (s : Shared) (room : ℕ) → (cond b s (after_meeting s room)).deliveries ≡ s.deliveries
polled_deliveries true s room = refl
polled_deliveries false s room = in_deliveries s.mode s room

poll_deliveries : (s : Shared) (wait : Option ℕ) (room : ℕ) → (after_poll s wait room).deliveries ≡ s.deliveries
poll_deliveries s wait room = polled_deliveries (is_waiting wait s.deliveries) s room

block_deliveries : (s : Shared) (w : Option ℕ) → (after_block s w).deliveries ≡ s.deliveries
block_deliveries s None = refl
block_deliveries s (Some w) = refl

captured_deliveries : (c : Option ℕ) (s : Shared) → (captured_by c s).deliveries ≡ s.deliveries
captured_deliveries None s = refl
captured_deliveries (Some w) s = refl

event_deliveries : (e : Event) (pass : ℕ) (given : List ℕ) (s : Standing) → (after_event e pass given s).shared.deliveries ≤ s.shared.deliveries + 1
event_deliveries event.Join pass given s = omega arith
event_deliveries (event.Read size) pass given s = omega (arith, read_deliveries s.shared size)
event_deliveries (event.Skip size) pass given s = omega (arith, read_deliveries s.shared size)
event_deliveries event.Ready pass given s = omega arith
event_deliveries (event.Block w) pass given s = omega (arith, block_deliveries s.shared w)
event_deliveries (event.PollRead w room) pass given s = omega (arith, poll_deliveries s.shared w room)
event_deliveries (event.WaitOver w) pass given s = omega arith
event_deliveries event.Capture pass given s = omega (arith, captured_deliveries (capture_of s.shared) s.shared)
event_deliveries (event.Deliver o) pass given s = omega arith
event_deliveries event.Stop pass given s = omega arith
event_deliveries event.SawStop pass given s = omega arith

replayed_deliveries : (s : Standing) (es : List Entry) → (replayed s es).shared.deliveries ≤ s.shared.deliveries + length es
replayed_deliveries s [] = omega arith
replayed_deliveries s (e ∷ es) = omega (arith, replayed_deliveries (after_entry e s) es, event_deliveries e.event e.pass e.bytes s)

pub deliveries_most : (es : List Entry) (s : Standing) → Replays es s → s.shared.deliveries ≤ length es
deliveries_most es s r = omega (arith, replayed_deliveries opening es, ap (λ (s : Standing). s.shared.deliveries) r.ends)

-- a pass stops
pub unstopped_set : (bs : List Bool) (p : ℕ) → slice_get bs p ≡ Some false → unstopped (set bs p true) + 1 ≡ unstopped bs
unstopped_set [] p h = absurd (cc)
unstopped_set (true ∷ bs) zero h = absurd (cc)
unstopped_set (false ∷ bs) zero h = omega arith
unstopped_set (true ∷ bs) (suc p) h = unstopped_set bs p h
unstopped_set (false ∷ bs) (suc p) h = omega (arith, unstopped_set bs p h)

pub any_set : (bs : List Bool) (p : ℕ) → slice_get bs p ≡ Some false → is_any (set bs p true) ≡ true
any_set [] p h = absurd (cc)
any_set (true ∷ bs) zero h = refl
any_set (false ∷ bs) zero h = refl
any_set (true ∷ bs) (suc p) h = refl
any_set (false ∷ bs) (suc p) h = any_set bs p h

-- a capture
capture_owes_at : (m : Mode) (c : Option ℕ) (s : Shared) → s.captured ≡ c → IsSome (capture_at m c) → for_capture (captured_by (capture_at m c) s).captured ≡ for_capture c + 1
capture_owes_at (Asked n) None s e h = refl
capture_owes_at (Asked n) (Some c) s e h = absurd (let f : false ≡ true = h in cc)
capture_owes_at Idle c s e h = absurd (let f : false ≡ true = h in cc)
capture_owes_at Held c s e h = absurd (let f : false ≡ true = h in cc)
capture_owes_at (Failed kind) c s e h = absurd (let f : false ≡ true = h in cc)
capture_owes_at Closed c s e h = absurd (let f : false ≡ true = h in cc)

pub capture_owes : (s : Shared) → IsSome (capture_of s) → for_capture (after_capture s).captured ≡ for_capture s.captured + 1
capture_owes s h = capture_owes_at s.mode s.captured s refl h

pub block_captured : (s : Shared) (w : Option ℕ) → (after_block s w).captured ≡ s.captured
block_captured s None = refl
block_captured s (Some w) = refl

-- the same, of an entry that was made for the event
pub kept_made : (s s' : Standing) (h h0 h' : List Entry) (total total' rest rest' cap cap' : ℕ) (stopped stopped' : Bool) (places places' : ℕ) (number pass' : ℕ) (ev : Event) (answer : Kept) (bytes : List ℕ) (wait : Option ℕ) (pass : ℕ) (event : Event)
    → IsKept s h total rest cap stopped places
    → h' ≡ h0 ++ record { number = number; pass = pass'; event = ev; answer = answer; bytes = bytes; wait = wait } ∷ []
    → h0 ≡ h → number ≡ length h → pass' ≡ pass → ev ≡ event
    → MayStand event pass bytes s
    → answer ≡ answer_to event s → bytes ≡ bytes_to event bytes s → wait ≡ wait_to event s
    → s' ≡ after_event event pass bytes s
    → total' ≡ total + 1 → rest' + length s'.stops ≡ 9223372036854775807 → stopped' ≡ is_any s'.stops → places' ≡ owed s' → length h + 1 + places' ≤ cap'
    → IsKept s' h' total' rest' cap' stopped' places'
kept_made s s' h h0 h' total total' rest rest' cap cap' stopped stopped' places places' number pass' ev answer bytes wait pass event kept hh h0h hn hpass hev may ha hb hw hs ht hr hst hp hc =
    let e : ◌≡◌ {A = Entry} (record { number = number; pass = pass'; event = ev; answer = answer; bytes = bytes; wait = wait }) (record { number = length h; pass = pass; event = event; answer = answer; bytes = bytes; wait = wait }) = cc in
    kept_next s s' h h' total total' rest rest' cap cap' stopped stopped' places places' (length h) pass event answer bytes wait
    kept may refl ha hb hw hs (hh ∙ (ap (λ x. x ++ record { number = number; pass = pass'; event = ev; answer = answer; bytes = bytes; wait = wait } ∷ []) h0h ∙ ap (λ x. h ++ x ∷ []) e)) ht hr hst hp hc

pub some_owes : (c : Option ℕ) (P : ℕ → Type 0) → IsSomeAnd c P → for_capture c ≡ 1
some_owes None P h = absurd h
some_owes (Some n) P h = refl

-- a pass joins
pub unstopped_more : (bs : List Bool) → unstopped (bs ++ false ∷ []) ≡ unstopped bs + 1
unstopped_more [] = refl
unstopped_more (true ∷ bs) = unstopped_more bs
unstopped_more (false ∷ bs) = omega (arith, unstopped_more bs)

pub any_more : (bs : List Bool) → is_any (bs ++ false ∷ []) ≡ is_any bs
any_more [] = refl
any_more (true ∷ bs) = refl
any_more (false ∷ bs) = any_more bs
