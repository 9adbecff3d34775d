-- Each byte that was delivered was handed out or is held.
use Rattle.std.proofs.Common.{◌≡◌, ℕ, ◌+◌, Bool, true, false, cond, nat_eq, List, [], ◌∷◌, ◌++◌, length, take, drop, refl, arith, ◌∙◌, sym, ap, Option, Some, None, append_assoc, zero, suc, max}
use Rattle.std.proofs.lemmas.Grind.{common_steps}
use Rattle.std.specs.Prelude.{IsSomeAnd}
use Rattle.wasi_base.specs.declared.io_kind.IoKind.{IoKind}
use Rattle.wasi_base.specs.declared.io_kind.IoKind.TheVariants.{BrokenPipe, NotFound, PermissionDenied, IsADirectory, WriteZero, Interrupted, InvalidData, Other}
use Rattle.wasi_base.specs.Source.{Told, gives, told_after, given_by, told_by}
use Rattle.wasi_base.specs.declared.source.Plan.{Plan}
use Rattle.wasi_base.specs.declared.source.Plan.TheVariants as plan
use Rattle.wasi_stdin.specs.declared.mode.Mode.{Mode}
use Rattle.wasi_stdin.specs.declared.mode.Mode.TheVariants.{Idle, Asked, Held, Failed, Closed}
use Rattle.wasi_stdin.specs.declared.answer.Outcome.{Outcome}
use Rattle.wasi_stdin.specs.declared.answer.Outcome.TheVariants as outcome
use Rattle.wasi_stdin.specs.Shared.{Shared, IsSound, HoldsIn, CapturedIn, met_in, after_in, meeting_of, after_meeting, reading, polling, reading_of, after_read, told_fault, bytes_read, bytes_polled, is_waiting, Pending, mode_holding, asked_by_ready, after_block, capture_at, captured_by, capture_of, delivered, outcome_given, FitsOutcome, handed_by, reading_in}
use Rattle.wasi_stdin.specs.declared.answer.Answer.{Answer}
use Rattle.wasi_stdin.specs.declared.answer.Answer.TheVariants as code
use Rattle.wasi_threads.specs.declared.entry.Entry.{Entry}
use Rattle.wasi_threads.specs.declared.entry.Event.{Event}
use Rattle.wasi_threads.specs.declared.entry.Event.TheVariants as event
use Rattle.wasi_threads.specs.History.{Standing, opening, IsLegal, AreLegal, after_entry, after_event, replayed, MayStand, bytes_to}
use Rattle.wasi_threads.specs.Rounds.{AreReadsOf, AreRounds, Worked, added_to, told_by_rounds, size_kept, bytes_given}
use Rattle.wasi_threads.specs.Collects.{out_of, in_of, handed_out, brought_in, IsWhole, IsCollected}
use Rattle.wasi_threads.specs.Passes.{Passing, part_of}

asked_any : (n m : ℕ) (c : Option ℕ) → CapturedIn (Asked n) c → CapturedIn (Asked m) c
asked_any n m None h = tt
asked_any n m (Some size) h = h

asked_none : (n : ℕ) (c : Option ℕ) → c ≡ None → CapturedIn (Asked n) c
asked_none n c h = rw h tt

sound_holding : (bytes : List ℕ) (c : Option ℕ) (deliveries : ℕ) → c ≡ None → IsSound (record { mode = mode_holding bytes; held = bytes; captured = c; deliveries = deliveries })
sound_holding [] c d h = record { holds = refl; captures = h }
sound_holding (b ∷ bs) c d h = record { holds = omega arith; captures = h }

sound_in : (m : Mode) (s : Shared) (size : ℕ) → HoldsIn m s.held → CapturedIn m s.captured → IsSound (after_in m s size)
sound_in Idle s size h c = record { holds = h; captures = asked_none size s.captured c }
sound_in (Asked n) s size h c = record { holds = h; captures = asked_any n (max n size) s.captured c }
sound_in Held s size h c = sound_holding (drop size s.held) s.captured s.deliveries c
sound_in (Failed kind) s size h c = record { holds = h; captures = c }
sound_in Closed s size h c = record { holds = h; captures = c }

sound_read : (s : Shared) (size : ℕ) → IsSound s → IsSound (after_read s size)
sound_read s zero h = h
sound_read s (suc n) h = sound_in s.mode s (suc n) h.holds h.captures

sound_polled : (b : Bool) (s : Shared) (room : ℕ) → IsSound s → IsSound (cond b s (after_meeting s room))
sound_polled true s room h = h
sound_polled false s room h = sound_in s.mode s room h.holds h.captures

sound_ready : (m : Mode) (held : List ℕ) (c : Option ℕ) (d : ℕ) → HoldsIn m held → CapturedIn m c → IsSound (record { mode = asked_by_ready m; held = held; captured = c; deliveries = d })
sound_ready Idle held c d h k = record { holds = h; captures = asked_none 65536 c k }
sound_ready (Asked n) held c d h k = record { holds = h; captures = k }
sound_ready Held held c d h k = record { holds = h; captures = k }
sound_ready (Failed kind) held c d h k = record { holds = h; captures = k }
sound_ready Closed held c d h k = record { holds = h; captures = k }

sound_block : (s : Shared) (w : Option ℕ) → IsSound s → IsSound (after_block s w)
sound_block s None h = sound_ready s.mode s.held s.captured s.deliveries h.holds h.captures
sound_block s (Some w) h = h

sound_capture_at : (m : Mode) (c : Option ℕ) (s : Shared) → s.mode ≡ m → s.captured ≡ c → IsSound s → IsSound (captured_by (capture_at m c) s)
sound_capture_at (Asked n) None s e f h = record { holds = h.holds; captures = rw e (omega arith, omega arith) }
sound_capture_at (Asked n) (Some c) s e f h = h
sound_capture_at Idle c s e f h = h
sound_capture_at Held c s e f h = h
sound_capture_at (Failed kind) c s e f h = h
sound_capture_at Closed c s e f h = h

sound_deliver : (s : Shared) (o : Outcome) (bytes : List ℕ) (size : ℕ) → FitsOutcome o bytes size → IsSound (delivered s (outcome_given o bytes))
sound_deliver s (outcome.Gave n) bytes size h = record { holds = omega (arith, h.0, h.2); captures = refl }
sound_deliver s outcome.End bytes size h = record { holds = refl; captures = refl }
sound_deliver s (outcome.Fault kind) bytes size h = record { holds = refl; captures = refl }

fits_some : (c : Option ℕ) (o : Outcome) (bytes : List ℕ) (s : Shared) → IsSomeAnd c (λ size. FitsOutcome o bytes size) → IsSound (delivered s (outcome_given o bytes))
fits_some None o bytes s h = absurd h
fits_some (Some size) o bytes s h = sound_deliver s o bytes size h

-- a legal event keeps the shared input sound
sound_event : (e : Event) (pass : ℕ) (given : List ℕ) (s : Standing) → MayStand e pass given s → IsSound s.shared → IsSound (after_event e pass given s).shared
sound_event event.Join pass given s m h = h
sound_event (event.Read size) pass given s m h = sound_read s.shared size h
sound_event (event.Skip size) pass given s m h = sound_read s.shared size h
sound_event event.Ready pass given s m h = sound_ready s.shared.mode s.shared.held s.shared.captured s.shared.deliveries h.holds h.captures
sound_event (event.Block w) pass given s m h = sound_block s.shared w h
sound_event (event.PollRead w room) pass given s m h = sound_polled (is_waiting w s.shared.deliveries) s.shared room h
sound_event (event.WaitOver w) pass given s m h = h
sound_event event.Capture pass given s m h = sound_capture_at s.shared.mode s.shared.captured s.shared refl refl h
sound_event (event.Deliver o) pass given s m h = fits_some s.shared.captured o given s.shared m.2
sound_event event.Stop pass given s m h = h
sound_event event.SawStop pass given s m h = h

-- what is held while a size is captured
none_held : (m : Mode) (c : Option ℕ) (held : List ℕ) (P : ℕ → Type 0) → HoldsIn m held → CapturedIn m c → IsSomeAnd c P → held ≡ []
none_held (Asked n) c held P h k i = h
none_held Idle c held P h k i = h
none_held (Failed kind) c held P h k i = h
none_held Closed c held P h k i = h
none_held Held None held P h k i = absurd i
none_held Held (Some n) held P h k i = absurd (let e : Some n ≡ None = k in cc)

fault_bytes : (kind : IoKind) → bytes_read (told_fault kind) ≡ []
fault_bytes BrokenPipe = refl
fault_bytes NotFound = refl
fault_bytes PermissionDenied = refl
fault_bytes IsADirectory = refl
fault_bytes WriteZero = refl
fault_bytes Interrupted = refl
fault_bytes InvalidData = refl
fault_bytes Other = refl

take_drop : (n : ℕ) (xs : List ℕ) → take n xs ++ drop n xs ≡ xs
take_drop n xs = grind (arith, common_steps)

in_bytes : (m : Mode) (s : Shared) (size : ℕ) → bytes_read (reading (met_in m s.held size)) ++ (after_in m s size).held ≡ s.held
in_bytes Idle s size = refl
in_bytes (Asked n) s size = refl
in_bytes Held s size = take_drop size s.held
in_bytes (Failed kind) s size = ap (λ bs. bs ++ s.held) (fault_bytes kind)
in_bytes Closed s size = refl

pub read_bytes : (s : Shared) (size : ℕ) → bytes_read (reading_of s size) ++ (after_read s size).held ≡ s.held
read_bytes s zero = refl
read_bytes s (suc n) = in_bytes s.mode s (suc n)

polled_bytes : (m : Mode) (s : Shared) (room : ℕ) → bytes_polled (polling (met_in m s.held room)) ++ (after_in m s room).held ≡ s.held
polled_bytes Idle s room = refl
polled_bytes (Asked n) s room = refl
polled_bytes Held s room = take_drop room s.held
polled_bytes (Failed kind) s room = refl
polled_bytes Closed s room = refl

pub polling_bytes : (b : Bool) (s : Shared) (room : ℕ) → bytes_polled (cond b Pending (polling (meeting_of s room))) ++ (cond b s (after_meeting s room)).held ≡ s.held
polling_bytes true s room = refl
polling_bytes false s room = polled_bytes s.mode s room

append_nil : (xs : List ℕ) → xs ++ [] ≡ xs
append_nil xs = grind (arith, common_steps)

pub block_held : (s : Shared) (w : Option ℕ) → (after_block s w).held ≡ s.held
block_held s None = refl
block_held s (Some w) = refl

pub captured_held : (c : Option ℕ) (s : Shared) → (captured_by c s).held ≡ s.held
captured_held None s = refl
captured_held (Some n) s = refl

pub given_held : (o : Outcome) (bytes : List ℕ) (c : Option ℕ) (s : Shared) → IsSomeAnd c (λ size. FitsOutcome o bytes size) → (delivered s (outcome_given o bytes)).held ≡ bytes
given_held o bytes None s h = absurd h
given_held (outcome.Gave n) bytes (Some c) s h = refl
given_held outcome.End bytes (Some c) s h = sym h
given_held (outcome.Fault kind) bytes (Some c) s h = sym h

event_bytes : (e : Event) (pass : ℕ) (given : List ℕ) (s : Standing) → MayStand e pass given s → IsSound s.shared → out_of e (bytes_to e given s) ++ (after_event e pass given s).shared.held ≡ s.shared.held ++ in_of e (bytes_to e given s)
event_bytes event.Join pass given s m h = sym (append_nil s.shared.held)
event_bytes (event.Read size) pass given s m h = read_bytes s.shared size ∙ sym (append_nil s.shared.held)
event_bytes (event.Skip size) pass given s m h = read_bytes s.shared size ∙ sym (append_nil s.shared.held)
event_bytes event.Ready pass given s m h = sym (append_nil s.shared.held)
event_bytes (event.Block w) pass given s m h = block_held s.shared w ∙ sym (append_nil s.shared.held)
event_bytes (event.PollRead w room) pass given s m h = polling_bytes (is_waiting w s.shared.deliveries) s.shared room ∙ sym (append_nil s.shared.held)
event_bytes (event.WaitOver w) pass given s m h = sym (append_nil s.shared.held)
event_bytes event.Capture pass given s m h = captured_held (capture_of s.shared) s.shared ∙ sym (append_nil s.shared.held)
event_bytes (event.Deliver o) pass given s m h = given_held o given s.shared.captured s.shared m.2 ∙ ap (λ held. held ++ given) (sym (none_held s.shared.mode s.shared.captured s.shared.held _ h.holds h.captures m.2))
event_bytes event.Stop pass given s m h = sym (append_nil s.shared.held)
event_bytes event.SawStop pass given s m h = sym (append_nil s.shared.held)

entry_bytes : (n : ℕ) (s : Standing) (e : Entry) → IsLegal n s e → IsSound s.shared → out_of e.event e.bytes ++ (after_entry e s).shared.held ≡ s.shared.held ++ in_of e.event e.bytes
entry_bytes n s e l h =
    let b : e.bytes ≡ bytes_to e.event e.bytes s = ap (λ (e : Entry). e.bytes) l.is in
    ap (λ bs. out_of e.event bs ++ (after_entry e s).shared.held) b ∙ (event_bytes e.event e.pass e.bytes s l.may h ∙ ap (λ bs. s.shared.held ++ in_of e.event bs) (sym b))

pub all_bytes : (n : ℕ) (s : Standing) (es : List Entry) → AreLegal n s es → IsSound s.shared → handed_out es ++ (replayed s es).shared.held ≡ s.shared.held ++ brought_in es
all_bytes n s [] l h = sym (append_nil s.shared.held)
all_bytes n s (e ∷ es) l h =
    let next = sound_event e.event e.pass e.bytes s l.0.may h in
    let rest = all_bytes (n + 1) (after_entry e s) es l.1 next in
    append_assoc (out_of e.event e.bytes) (handed_out es) _ ∙ (ap (λ bs. out_of e.event e.bytes ++ bs) rest
    ∙ (sym (append_assoc (out_of e.event e.bytes) (after_entry e s).shared.held (brought_in es)) ∙ (ap (λ bs. bs ++ brought_in es) (entry_bytes n s e l.0 h) ∙ append_assoc s.shared.held (in_of e.event e.bytes) (brought_in es))))

pub opening_bytes : (es : List Entry) → AreLegal 0 opening es → handed_out es ++ (replayed opening es).shared.held ≡ brought_in es
opening_bytes es l = all_bytes 0 opening es l (record { holds = refl; captures = refl })

-- what a source gave and has left is what it had
given_left : (plans : List Plan) (left : List ℕ) (r : ℕ) → bytes_given (given_by plans left r) ++ (told_by plans left r).left ≡ left
given_left (plan.Fail kind ∷ ps) left r = refl
given_left (plan.Take k ∷ ps) [] r = refl
given_left (plan.Take k ∷ ps) (b ∷ left) r = take_drop _ (b ∷ left)
given_left [] [] r = refl
given_left [] (b ∷ left) r = take_drop r (b ∷ left)

take_length : (xs : List ℕ) → take (length xs) xs ≡ xs
take_length [] = refl
take_length (x ∷ xs) = ap (λ ys. x ∷ ys) (take_length xs)

none_long : (xs : List ℕ) → length xs ≡ 0 → xs ≡ []
none_long [] h = refl
none_long (x ∷ xs) h = absurd (omega arith)

some_told : (a b : Told) → Some a ≡ Some b → a ≡ b
some_told a b h = cc

brought_rounds : (t : Told) (es : List Entry) → AreRounds es → AreReadsOf t es → brought_in es ++ (told_by_rounds t es).left ≡ t.left
brought_rounds t [] p h = refl
brought_rounds t (c ∷ []) p h = let one : in_of c.event c.bytes ≡ [] = rw p refl in rw one refl
brought_rounds t (c ∷ d ∷ es) p h =
    let t' = told_after t (size_kept c.answer) in
    let rest = brought_rounds t' es p.2 h.1 in
    let one : in_of c.event c.bytes ≡ [] = rw p.0.capture refl in
    let two : in_of d.event d.bytes ≡ bytes_given (gives t (size_kept c.answer)) = rw h.0.event h.0.bytes in
    rw (one, two) (append_assoc (bytes_given (gives t (size_kept c.answer))) (brought_in es) _ ∙ (ap (λ bs. bytes_given (gives t (size_kept c.answer)) ++ bs) rest ∙ given_left t.plan t.left (size_kept c.answer)))

brought_append : (xs ys : List Entry) → brought_in (xs ++ ys) ≡ brought_in xs ++ brought_in ys
brought_append [] ys = refl
brought_append (x ∷ xs) ys = ap (λ bs. in_of x.event x.bytes ++ bs) (brought_append xs ys) ∙ sym (append_assoc (in_of x.event x.bytes) (brought_in xs) (brought_in ys))

-- what the worker's deliveries brought in, and what the source has left, stays
pub worked_bytes : (a b : Passing) (before after : Option Told) (f g : ℕ) (t u : Told) → Worked a b before after f g → before ≡ Some t → after ≡ Some u → brought_in b.entries ++ u.left ≡ brought_in a.entries ++ t.left
worked_bytes a b before after f g t u w e k =
    let told = w.reads.told t e in
    let u' : u ≡ told_by_rounds t (added_to a b) = some_told u _ (sym k ∙ told.1) in
    let bytes : brought_in b.entries ≡ brought_in a.entries ++ brought_in (added_to a b) = ap brought_in w.adds.entries ∙ brought_append a.entries (added_to a b) in
    rw (bytes, u') (append_assoc (brought_in a.entries) (brought_in (added_to a b)) _ ∙ ap (λ bs. brought_in a.entries ++ bs) (brought_rounds t (added_to a b) w.rounds told.0))

-- only the worker delivers
in_other : (e : Event) (pass : ℕ) (given bytes : List ℕ) (s : Standing) → MayStand e pass given s → nat_eq pass 0 ≡ false → in_of e bytes ≡ []
in_other event.Join pass given bytes s m h = refl
in_other (event.Read size) pass given bytes s m h = refl
in_other (event.Skip size) pass given bytes s m h = refl
in_other event.Ready pass given bytes s m h = refl
in_other (event.Block w) pass given bytes s m h = refl
in_other (event.PollRead w room) pass given bytes s m h = refl
in_other (event.WaitOver w) pass given bytes s m h = refl
in_other event.Capture pass given bytes s m h = refl
in_other (event.Deliver o) pass given bytes s m h = absurd (let e : true ≡ false = sym (ap (λ p. nat_eq p 0) m.1) ∙ h in cc)
in_other event.Stop pass given bytes s m h = refl
in_other event.SawStop pass given bytes s m h = refl

part_brought : (b : Bool) (e : Entry) (es part : List Entry) → (b ≡ false → in_of e.event e.bytes ≡ []) → brought_in es ≡ brought_in part → brought_in (e ∷ es) ≡ brought_in (cond b (e ∷ part) part)
part_brought true e es part h k = ap (λ bs. in_of e.event e.bytes ++ bs) k
part_brought false e es part h k = rw (h refl) k

brought_part : (n : ℕ) (s : Standing) (es : List Entry) → AreLegal n s es → brought_in es ≡ brought_in (part_of 0 es)
brought_part n s [] l = refl
brought_part n s (e ∷ es) l = part_brought (nat_eq e.pass 0) e es (part_of 0 es) (λ h. in_other e.event e.pass e.bytes e.bytes s l.0.may h) (brought_part (n + 1) (after_entry e s) es l.1)

-- what was collected
pub collected_is : (worker : Passing) (passes : List Passing) (h : List Entry) (pieces held : List ℕ) → worker.number ≡ 0 → IsWhole (worker ∷ passes) h → pieces ≡ handed_out h → held ≡ (replayed opening h).shared.held → IsCollected worker passes h pieces held
collected_is worker passes h pieces held n w p q = record {
  whole = w;
  out = p;
  rest = q;
  all = rw (p, q) (opening_bytes h w.legal);
  mine = brought_part 0 opening h w.legal ∙ ap brought_in (sym (w.parts.0 ∙ ap (λ k. part_of k h) n));
}

-- a read of all that is held
held_all : (m : Mode) (s : Shared) → HoldsIn m s.held → bytes_read (reading (met_in m s.held (length s.held))) ≡ s.held
held_all Idle s h = sym h
held_all (Asked n) s h = sym h
held_all Held s h = take_length s.held
held_all (Failed kind) s h = fault_bytes kind ∙ sym h
held_all Closed s h = sym h

read_sized : (s : Shared) (n : ℕ) → n ≡ length s.held → IsSound s → bytes_read (reading_of s n) ≡ s.held
read_sized s zero e h = sym (none_long s.held (sym e))
read_sized s (suc n) e h = rw e (held_all s.mode s h.holds)

read_items : (a : Answer) (items held : List ℕ) → bytes_read (reading_in a items) ≡ held → handed_by a ≡ length held → length items ≡ length held → items ≡ held
read_items (code.Bytes n) items held h k l = sym (take_length items) ∙ (ap (λ m. take m items) (l ∙ sym k) ∙ h)
read_items code.Closed items held h k l = none_long items (l ∙ ap length (sym h)) ∙ h
read_items (code.Failed kind) items held h k l = none_long items (l ∙ ap length (sym h)) ∙ h

pub all_read : (a : Answer) (items : List ℕ) (s : Shared) (n : ℕ) → IsSound s → n ≡ length s.held → length items ≡ n → reading_in a items ≡ reading_of s n → handed_by a ≡ length (bytes_read (reading_of s n)) → items ≡ s.held
all_read a items s n sound e l h k =
    let all = read_sized s n e sound in
    read_items a items s.held (ap bytes_read h ∙ all) (k ∙ ap length all) (l ∙ e)

front_of : (xs ys : List ℕ) → take (length xs) (xs ++ ys) ≡ xs
front_of [] ys = refl
front_of (x ∷ xs) ys = ap (λ zs. x ∷ zs) (front_of xs ys)

-- a buffer that was written whole
pub written_whole : (xs ys : List ℕ) (n : ℕ) → n ≡ length xs → take n (xs ++ ys) ≡ xs
written_whole xs ys n h = rw h (front_of xs ys)
