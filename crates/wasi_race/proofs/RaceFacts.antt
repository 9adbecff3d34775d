-- What the three passes of a race come to.
use Rattle.std.proofs.Common.{◌≡◌, ℕ, ◌+◌, ◌<◌, ◌≤◌, Bool, true, false, ◌||◌, ◌&&◌, cond, nat_eq, List, [], ◌∷◌, ◌++◌, length, take, drop, refl, arith, ◌∙◌, sym, ap, subst, Option, Some, None, zero, suc}
use Rattle.std.proofs.lemmas.Bool.Decides.{nat_tests}
use Rattle.std.proofs.lemmas.Grind.{common_steps}
use Rattle.wasi_base.specs.Causes.{Rose}
use Rattle.wasi_base.specs.Source.{Told}
use Rattle.wasi_base.specs.declared.io_kind.IoKind.{IoKind}
use Rattle.wasi_base.specs.declared.io_kind.IoKind.TheVariants.{BrokenPipe, NotFound, PermissionDenied, IsADirectory, WriteZero, Interrupted, InvalidData, Other}
use Rattle.wasi_stdin.specs.Shared.{Shared, met_in, after_in, reading, reading_of, after_read, told_fault, bytes_read, after_block, capture_of, captured_by}
use Rattle.wasi_stdin.specs.declared.answer.Outcome.TheVariants as outcome
use Rattle.wasi_stdin.specs.declared.mode.Mode.{Mode}
use Rattle.wasi_stdin.specs.declared.mode.Mode.TheVariants.{Idle, Asked, Held, Failed, Closed}
use Rattle.wasi_threads.specs.declared.entry.Entry.{Entry}
use Rattle.wasi_threads.specs.declared.entry.Event.{Event}
use Rattle.wasi_threads.specs.declared.entry.Event.TheVariants as event
use Rattle.wasi_threads.specs.Calls.{IsJoined}
use Rattle.wasi_threads.specs.Collects.{IsWhole, IsCollected, handed_out, out_of, brought_in, DeliveriesKeepTheInput}
use Rattle.wasi_threads.specs.History.{Standing, AreLegal, MayStand, after_event, after_entry, opening, replayed, is_any, bytes_to}
use Rattle.wasi_threads.specs.Passes.{Passing, part_of, is_among, AllAmong, has_entry, tick, is_sight, has_sight}
use Rattle.wasi_threads.specs.Rounds.{AreRounds, Worked, added_to, delivery_of, is_given, has_last, has_fault, told_by_rounds}
use Rattle.wasi_race.specs.declared.outcome.Last.{Last}
use Rattle.wasi_race.specs.declared.outcome.Last.TheVariants as last
use Rattle.wasi_race.specs.declared.outcome.Reader.{Reader}
use Rattle.wasi_race.specs.declared.outcome.Reader.TheVariants.{First, Second}
use Rattle.wasi_race.specs.declared.words.Sizes.{Sizes}
use Rattle.wasi_race.specs.History.{Printed, reader_of, piece_of, piece_by, pieces_in, newer, last_by, last_in, is_readers, AreReaders, IsReader, is_done}
use Rattle.wasi_race.specs.Races.{joined, size_of, AreShort, OnFault, IsRaced}
use Rattle.wasi_race.proofs.PlanFacts.{finished, ended, fault_delivered}

-- Each entry's pass is one of the three.

abbrev AreNumbered : ℕ → List Entry → Type 0
AreNumbered n [] = Unit {0}
AreNumbered n (e ∷ es) = (e.number ≡ n) × AreNumbered (n + 1) es

legal_numbered : (n : ℕ) (s : Standing) (es : List Entry) → AreLegal n s es → AreNumbered n es
legal_numbered n s [] h = tt
legal_numbered n s (e ∷ es) h = (ap (λ (e : Entry). e.number) h.0.is, legal_numbered (n + 1) (after_entry e s) es h.1)

not_equal : (k n : ℕ) → k < n → nat_eq n k ≡ false
not_equal k n h = grind (arith, nat_tests)

same_nat : (n : ℕ) → nat_eq n n ≡ true
same_nat n = grind (arith, nat_tests)

has_cond : (k : ℕ) (b : Bool) (e : Entry) (es : List Entry) → has_entry k (cond b (e ∷ es) es) ≡ (b && nat_eq e.number k) || has_entry k es
has_cond k true e es = refl
has_cond k false e es = refl

and_none : (b : Bool) → (b && false) || false ≡ false
and_none true = refl
and_none false = refl

and_here : (b : Bool) → (b && true) || false ≡ b
and_here true = refl
and_here false = refl

and_rest : (b x : Bool) → (b && false) || x ≡ x
and_rest true x = refl
and_rest false x = refl

none_before : (k m n : ℕ) (es : List Entry) → AreNumbered n es → k < n → has_entry k (part_of m es) ≡ false
none_before k m n [] h l = refl
none_before k m n (e ∷ es) h l =
    let here : nat_eq e.number k ≡ false = rw h.0 (not_equal k n l) in
    let rest : has_entry k (part_of m es) ≡ false = none_before k m (n + 1) es h.1 (omega arith) in
    has_cond k (nat_eq e.pass m) e (part_of m es) ∙ rw (here, rest) (and_none (nat_eq e.pass m))

-- whether a part of one of these passes holds the entry of this number
abbrev in_parts : ℕ → List ℕ → List Entry → Bool
in_parts k [] es = false
in_parts k (m ∷ ms) es = has_entry k (part_of m es) || in_parts k ms es

part_here : (m n : ℕ) (e : Entry) (es : List Entry) → AreNumbered n (e ∷ es) → has_entry n (part_of m (e ∷ es)) ≡ nat_eq e.pass m
part_here m n e es h =
    let here : nat_eq e.number n ≡ true = rw h.0 (same_nat n) in
    let rest : has_entry n (part_of m es) ≡ false = none_before n m (n + 1) es h.1 (omega arith) in
    has_cond n (nat_eq e.pass m) e (part_of m es) ∙ rw (here, rest) (and_here (nat_eq e.pass m))

parts_here : (n : ℕ) (e : Entry) (es : List Entry) (ms : List ℕ) → AreNumbered n (e ∷ es) → in_parts n ms (e ∷ es) ≡ is_among e.pass ms
parts_here n e es [] h = refl
parts_here n e es (m ∷ ms) h = ap (λ b. b || in_parts n ms (e ∷ es)) (part_here m n e es h) ∙ ap (λ b. nat_eq e.pass m || b) (parts_here n e es ms h)

part_later : (k m n : ℕ) (e : Entry) (es : List Entry) → e.number ≡ n → n < k → has_entry k (part_of m (e ∷ es)) ≡ has_entry k (part_of m es)
part_later k m n e es h l =
    let here : nat_eq e.number k ≡ false = rw h (grind (arith, nat_tests)) in
    has_cond k (nat_eq e.pass m) e (part_of m es) ∙ rw here (and_rest (nat_eq e.pass m) (has_entry k (part_of m es)))

parts_later : (k n : ℕ) (e : Entry) (es : List Entry) (ms : List ℕ) → e.number ≡ n → n < k → in_parts k ms (e ∷ es) ≡ in_parts k ms es
parts_later k n e es [] h l = refl
parts_later k n e es (m ∷ ms) h l = ap (λ b. b || in_parts k ms (e ∷ es)) (part_later k m n e es h l) ∙ ap (λ b. has_entry k (part_of m es) || b) (parts_later k n e es ms h l)

all_among : (n : ℕ) (ms : List ℕ) (es : List Entry) → AreNumbered n es → ((k : ℕ) → n ≤ k → k < n + length es → in_parts k ms es ≡ true) → AllAmong es ms
all_among n ms [] h f = tt
all_among n ms (e ∷ es) h f = (
  sym (parts_here n e es ms h) ∙ f n (omega arith) (omega arith),
  all_among (n + 1) ms es h.1 (λ k l m. sym (parts_later k n e es ms h.0 (omega arith)) ∙ f k (omega arith) (omega arith)),
)

-- a pass that holds an entry holds its part
part_is : (b : Bool) (es part : List Entry) → es ≡ cond b [] part → 0 < length es → (b ≡ false) × (es ≡ part)
part_is true es part h l = absurd (let n : length es ≡ 0 = ap length h in omega arith)
part_is false es part h l = (refl, h)

one_of : (x y z : Bool) → tick x + (tick y + (tick z + 0)) ≡ 1 → x || (y || (z || false)) ≡ true
one_of true y z h = refl
one_of false true z h = refl
one_of false false true h = refl
one_of false false false h = absurd (omega arith)

or_parts : (a b : Bool) → a || b ≡ false → (a ≡ false) × (b ≡ false)
or_parts true b h = absurd (let e : true ≡ false = h in cc)
or_parts false b h = (refl, h)

-- the passes of a whole history: their parts, and that there are no others
record Three (w a b : Passing) (h : List Entry) : Type 0 where
  worker : w.entries ≡ part_of w.number h
  first : a.entries ≡ part_of a.number h
  second : b.entries ≡ part_of b.number h
  differ : nat_eq b.number a.number ≡ false
  among : AllAmong h (w.number ∷ a.number ∷ b.number ∷ [])

three : (w a b : Passing) (h : List Entry) → 0 < length a.entries → 0 < length b.entries → IsWhole (w ∷ a ∷ b ∷ []) h → Three w a b h
three w a b h la lb whole =
    let pw : w.entries ≡ part_of w.number h = whole.parts.0 in
    let pa = part_is (is_among a.number (w.number ∷ [])) a.entries (part_of a.number h) whole.parts.1.0 la in
    let pb = part_is (is_among b.number (a.number ∷ w.number ∷ [])) b.entries (part_of b.number h) whole.parts.1.1.0 lb in
    let other = or_parts (nat_eq b.number a.number) (is_among b.number (w.number ∷ [])) pb.0 in
    record {
      worker = pw;
      first = pa.1;
      second = pb.1;
      differ = other.0;
      among = all_among 0 (w.number ∷ a.number ∷ b.number ∷ []) h (legal_numbered 0 opening h whole.legal) (λ k l m.
          let one : in_parts k (w.number ∷ a.number ∷ b.number ∷ []) h ≡ has_entry k w.entries || (has_entry k a.entries || (has_entry k b.entries || false)) = rw (pw, pa.1, pb.1) refl in
          one ∙ one_of (has_entry k w.entries) (has_entry k a.entries) (has_entry k b.entries) (whole.one k (omega arith)));
    }

-- The events of a race.

abbrev is_workers : Event → Bool
is_workers event.Join = true
is_workers event.Capture = true
is_workers (event.Deliver o) = true
is_workers event.SawStop = true
is_workers (event.Read n) = false
is_workers (event.Skip n) = false
is_workers event.Ready = false
is_workers (event.Block w) = false
is_workers (event.PollRead w n) = false
is_workers (event.WaitOver w) = false
is_workers event.Stop = false

abbrev AreWorkers : List Entry → Type 0
AreWorkers [] = Unit {0}
AreWorkers (e ∷ es) = (is_workers e.event ≡ true) × AreWorkers es

given_workers : (ev : Event) → is_given (delivery_of ev) ≡ true → is_workers ev ≡ true
given_workers event.Join h = refl
given_workers (event.Read n) h = absurd (let e : false ≡ true = h in cc)
given_workers (event.Skip n) h = absurd (let e : false ≡ true = h in cc)
given_workers event.Ready h = absurd (let e : false ≡ true = h in cc)
given_workers (event.Block w) h = absurd (let e : false ≡ true = h in cc)
given_workers (event.PollRead w n) h = absurd (let e : false ≡ true = h in cc)
given_workers (event.WaitOver w) h = absurd (let e : false ≡ true = h in cc)
given_workers event.Capture h = refl
given_workers (event.Deliver o) h = refl
given_workers event.Stop h = absurd (let e : false ≡ true = h in cc)
given_workers event.SawStop h = refl

rounds_workers : (es : List Entry) → AreRounds es → AreWorkers es
rounds_workers [] h = tt
rounds_workers (c ∷ []) h = (rw h refl, tt)
rounds_workers (c ∷ d ∷ es) h = (rw h.0.capture refl, (given_workers d.event h.0.deliver, rounds_workers es h.2))

-- no skip, no polled read, no stop, and each read of its reader's size
abbrev Fits : Sizes → Reader → Event → Type 0
Fits sizes reader (event.Read n) = n ≡ size_of sizes reader
Fits sizes reader (event.Skip n) = ⊥
Fits sizes reader (event.PollRead w n) = ⊥
Fits sizes reader event.Stop = ⊥
Fits sizes reader event.Join = Unit {0}
Fits sizes reader event.Ready = Unit {0}
Fits sizes reader (event.Block w) = Unit {0}
Fits sizes reader (event.WaitOver w) = Unit {0}
Fits sizes reader event.Capture = Unit {0}
Fits sizes reader (event.Deliver o) = Unit {0}
Fits sizes reader event.SawStop = Unit {0}

abbrev AreFitting : Sizes → ℕ → List Entry → Type 0
AreFitting sizes first [] = Unit {0}
AreFitting sizes first (e ∷ es) = Fits sizes (reader_of first e.pass) e.event × AreFitting sizes first es

worker_fits : (sizes : Sizes) (reader : Reader) (ev : Event) → is_workers ev ≡ true → Fits sizes reader ev
worker_fits sizes reader event.Join h = tt
worker_fits sizes reader (event.Read n) h = absurd (let e : false ≡ true = h in cc)
worker_fits sizes reader (event.Skip n) h = absurd (let e : false ≡ true = h in cc)
worker_fits sizes reader event.Ready h = tt
worker_fits sizes reader (event.Block w) h = tt
worker_fits sizes reader (event.PollRead w n) h = absurd (let e : false ≡ true = h in cc)
worker_fits sizes reader (event.WaitOver w) h = tt
worker_fits sizes reader event.Capture h = tt
worker_fits sizes reader (event.Deliver o) h = tt
worker_fits sizes reader event.Stop h = absurd (let e : false ≡ true = h in cc)
worker_fits sizes reader event.SawStop h = tt

equal_of : (m n : ℕ) → nat_eq m n ≡ true → m ≡ n
equal_of m n h = grind (arith, nat_tests)

reader_fits : (sizes : Sizes) (reader : Reader) (ev : Event) → is_readers (size_of sizes reader) ev ≡ true → Fits sizes reader ev
reader_fits sizes reader event.Join h = tt
reader_fits sizes reader (event.Read n) h = equal_of n (size_of sizes reader) h
reader_fits sizes reader (event.Skip n) h = absurd (let e : false ≡ true = h in cc)
reader_fits sizes reader event.Ready h = tt
reader_fits sizes reader (event.Block w) h = tt
reader_fits sizes reader (event.PollRead w n) h = absurd (let e : false ≡ true = h in cc)
reader_fits sizes reader (event.WaitOver w) h = tt
reader_fits sizes reader event.Capture h = tt
reader_fits sizes reader (event.Deliver o) h = tt
reader_fits sizes reader event.Stop h = absurd (let e : false ≡ true = h in cc)
reader_fits sizes reader event.SawStop h = tt

workers_cond : (b : Bool) (e : Entry) (part : List Entry) → AreWorkers (cond b (e ∷ part) part) → (b ≡ true → is_workers e.event ≡ true) × AreWorkers part
workers_cond true e part h = ((λ t. h.0), h.1)
workers_cond false e part h = ((λ t. absurd (let f : false ≡ true = t in cc)), h)

readers_cond : (n : ℕ) (b : Bool) (e : Entry) (part : List Entry) → AreReaders n (cond b (e ∷ part) part) → (b ≡ true → is_readers n e.event ≡ true) × AreReaders n part
readers_cond n true e part h = ((λ t. h.0), h.1)
readers_cond n false e part h = ((λ t. absurd (let f : false ≡ true = t in cc)), h)

fits_one : (x y z : Bool) (F : Type 0) → x || (y || (z || false)) ≡ true → (x ≡ true → F) → (y ≡ true → F) → (z ≡ true → F) → F
fits_one true y z F h f g k = f refl
fits_one false true z F h f g k = g refl
fits_one false false true F h f g k = k refl
fits_one false false false F h f g k = absurd (let e : false ≡ true = h in cc)

other_pass : (p a b : ℕ) → nat_eq p b ≡ true → nat_eq b a ≡ false → nat_eq p a ≡ false
other_pass p a b h k = grind (arith, nat_tests)

is_first : (first pass : ℕ) → nat_eq pass first ≡ true → reader_of first pass ≡ First
is_first first pass h = rw h refl

is_second : (first pass : ℕ) → nat_eq pass first ≡ false → reader_of first pass ≡ Second
is_second first pass h = rw h refl

fits_as : (sizes : Sizes) (r s : Reader) (ev : Event) → r ≡ s → Fits sizes s ev → Fits sizes r ev
fits_as sizes r s ev e h = subst (λ q. Fits sizes q ev) (sym e) h

fitting : (sizes : Sizes) (w a b : ℕ) (es : List Entry) → nat_eq b a ≡ false → AllAmong es (w ∷ a ∷ b ∷ []) → AreWorkers (part_of w es) → AreReaders sizes.first (part_of a es) → AreReaders sizes.second (part_of b es) → AreFitting sizes a es
fitting sizes w a b [] d among hw ha hb = tt
fitting sizes w a b (e ∷ es) d among hw ha hb =
    let cw = workers_cond (nat_eq e.pass w) e (part_of w es) hw in
    let ca = readers_cond sizes.first (nat_eq e.pass a) e (part_of a es) ha in
    let cb = readers_cond sizes.second (nat_eq e.pass b) e (part_of b es) hb in (
      fits_one (nat_eq e.pass w) (nat_eq e.pass a) (nat_eq e.pass b) (Fits sizes (reader_of a e.pass) e.event) among.0
          (λ t. worker_fits sizes (reader_of a e.pass) e.event (cw.0 t))
          (λ t. fits_as sizes (reader_of a e.pass) First e.event (is_first a e.pass t) (reader_fits sizes First e.event (ca.0 t)))
          (λ t. fits_as sizes (reader_of a e.pass) Second e.event (is_second a e.pass (other_pass e.pass a b t d)) (reader_fits sizes Second e.event (cb.0 t))),
      fitting sizes w a b es d among.1 cw.1 ca.1 cb.1,
    )

-- Nothing stops, so no stop is seen.

any_more : (bs : List Bool) → is_any (bs ++ false ∷ []) ≡ is_any bs
any_more [] = refl
any_more (b ∷ bs) = ap (λ c. b || c) (any_more bs)

quiet_event : (sizes : Sizes) (reader : Reader) (ev : Event) (pass : ℕ) (given : List ℕ) (s : Standing) → Fits sizes reader ev → MayStand ev pass given s → is_any s.stops ≡ false → (is_sight ev ≡ false) × (is_any (after_event ev pass given s).stops ≡ false)
quiet_event sizes reader event.Join pass given s f m h = (refl, any_more s.stops ∙ h)
quiet_event sizes reader (event.Read n) pass given s f m h = (refl, h)
quiet_event sizes reader (event.Skip n) pass given s f m h = absurd f
quiet_event sizes reader event.Ready pass given s f m h = (refl, h)
quiet_event sizes reader (event.Block w) pass given s f m h = (refl, h)
quiet_event sizes reader (event.PollRead w n) pass given s f m h = absurd f
quiet_event sizes reader (event.WaitOver w) pass given s f m h = (refl, h)
quiet_event sizes reader event.Capture pass given s f m h = (refl, h)
quiet_event sizes reader (event.Deliver o) pass given s f m h = (refl, h)
quiet_event sizes reader event.Stop pass given s f m h = absurd f
quiet_event sizes reader event.SawStop pass given s f m h = absurd (let e : true ≡ false = sym m.2 ∙ h in cc)

quiet : (sizes : Sizes) (first n : ℕ) (s : Standing) (es : List Entry) → AreLegal n s es → AreFitting sizes first es → is_any s.stops ≡ false → has_sight es ≡ false
quiet sizes first n s [] l f h = refl
quiet sizes first n s (e ∷ es) l f h =
    let q = quiet_event sizes (reader_of first e.pass) e.event e.pass e.bytes s f.0 l.0.may h in
    rw q.0 (quiet sizes first (n + 1) (after_entry e s) es l.1 f.1 q.1)

sight_cond : (b : Bool) (e : Entry) (part : List Entry) → is_sight e.event ≡ false → has_sight part ≡ false → has_sight (cond b (e ∷ part) part) ≡ false
sight_cond true e part h k = rw h k
sight_cond false e part h k = k

sight_part : (m : ℕ) (es : List Entry) → has_sight es ≡ false → has_sight (part_of m es) ≡ false
sight_part m [] h = refl
sight_part m (e ∷ es) h =
    let p = or_parts (is_sight e.event) (has_sight es) h in
    sight_cond (nat_eq e.pass m) e (part_of m es) p.0 (sight_part m es p.1)

-- The last delivery is the worker's last, and nothing is held after it.

newer_other : (ev : Event) (pass : ℕ) (given : List ℕ) (s : Standing) (before : Option Last) → MayStand ev pass given s → nat_eq pass 0 ≡ false → newer ev before ≡ before
newer_other event.Join pass given s before m h = refl
newer_other (event.Read n) pass given s before m h = refl
newer_other (event.Skip n) pass given s before m h = refl
newer_other event.Ready pass given s before m h = refl
newer_other (event.Block w) pass given s before m h = refl
newer_other (event.PollRead w n) pass given s before m h = refl
newer_other (event.WaitOver w) pass given s before m h = refl
newer_other event.Capture pass given s before m h = refl
newer_other (event.Deliver o) pass given s before m h = absurd (let e : true ≡ false = sym (ap (λ p. nat_eq p 0) m.1) ∙ h in cc)
newer_other event.Stop pass given s before m h = refl
newer_other event.SawStop pass given s before m h = refl

last_cond : (b : Bool) (e : Entry) (es part : List Entry) (before : Option Last) → (b ≡ false → newer e.event before ≡ before) → ((next : Option Last) → last_by next es ≡ last_by next part) → last_by before (e ∷ es) ≡ last_by before (cond b (e ∷ part) part)
last_cond true e es part before h k = k (newer e.event before)
last_cond false e es part before h k = ap (λ next. last_by next es) (h refl) ∙ k before

last_part : (n : ℕ) (s : Standing) (es : List Entry) → AreLegal n s es → (before : Option Last) → last_by before es ≡ last_by before (part_of 0 es)
last_part n s [] l before = refl
last_part n s (e ∷ es) l before = last_cond (nat_eq e.pass 0) e es (part_of 0 es) before (λ h. newer_other e.event e.pass e.bytes s before l.0.may h) (last_part (n + 1) (after_entry e s) es l.1)

drop_none : (n : ℕ) (held : List ℕ) → held ≡ [] → drop n held ≡ []
drop_none n held h = rw h (grind (arith, common_steps))

none_in : (m : Mode) (s : Shared) (n : ℕ) → s.held ≡ [] → (after_in m s n).held ≡ []
none_in Idle s n h = h
none_in (Asked k) s n h = h
none_in Held s n h = drop_none n s.held h
none_in (Failed kind) s n h = h
none_in Closed s n h = h

none_read : (s : Shared) (n : ℕ) → s.held ≡ [] → (after_read s n).held ≡ []
none_read s zero h = h
none_read s (suc n) h = none_in s.mode s (suc n) h

none_block : (s : Shared) (w : Option ℕ) → s.held ≡ [] → (after_block s w).held ≡ []
none_block s None h = h
none_block s (Some w) h = h

none_captured : (c : Option ℕ) (s : Shared) → s.held ≡ [] → (captured_by c s).held ≡ []
none_captured None s h = h
none_captured (Some n) s h = h

none_held : (sizes : Sizes) (reader : Reader) (ev : Event) (pass : ℕ) (given : List ℕ) (s : Standing) (before : Option Last) (o : Last) → Fits sizes reader ev → ((o : Last) → before ≡ Some o → s.shared.held ≡ []) → newer ev before ≡ Some o → (after_event ev pass given s).shared.held ≡ []
none_held sizes reader event.Join pass given s before o f h e = h o e
none_held sizes reader (event.Read n) pass given s before o f h e = none_read s.shared n (h o e)
none_held sizes reader (event.Skip n) pass given s before o f h e = absurd f
none_held sizes reader event.Ready pass given s before o f h e = h o e
none_held sizes reader (event.Block w) pass given s before o f h e = none_block s.shared w (h o e)
none_held sizes reader (event.PollRead w n) pass given s before o f h e = absurd f
none_held sizes reader (event.WaitOver w) pass given s before o f h e = h o e
none_held sizes reader event.Capture pass given s before o f h e = none_captured (capture_of s.shared) s.shared (h o e)
none_held sizes reader (event.Deliver (outcome.Gave n)) pass given s before o f h e = absurd (let g : None ≡ Some o = e in cc)
none_held sizes reader (event.Deliver outcome.End) pass given s before o f h e = refl
none_held sizes reader (event.Deliver (outcome.Fault kind)) pass given s before o f h e = refl
none_held sizes reader event.Stop pass given s before o f h e = absurd f
none_held sizes reader event.SawStop pass given s before o f h e = h o e

held_none : (sizes : Sizes) (first : ℕ) (s : Standing) (es : List Entry) (before : Option Last) (o : Last) → AreFitting sizes first es → ((o : Last) → before ≡ Some o → s.shared.held ≡ []) → last_by before es ≡ Some o → (replayed s es).shared.held ≡ []
held_none sizes first s [] before o f h e = h o e
held_none sizes first s (x ∷ es) before o f h e = held_none sizes first (after_entry x s) es (newer x.event before) o f.1 (λ p q. none_held sizes (reader_of first x.pass) x.event x.pass x.bytes s before p f.0 h q) e

-- The pieces.

take_short : (n : ℕ) (xs : List ℕ) → length (take n xs) ≤ n
take_short n xs = grind (arith, common_steps)

fault_bytes : (kind : IoKind) → bytes_read (told_fault kind) ≡ []
fault_bytes BrokenPipe = refl
fault_bytes NotFound = refl
fault_bytes PermissionDenied = refl
fault_bytes IsADirectory = refl
fault_bytes WriteZero = refl
fault_bytes Interrupted = refl
fault_bytes InvalidData = refl
fault_bytes Other = refl

met_short : (m : Mode) (held : List ℕ) (n : ℕ) → length (bytes_read (reading (met_in m held n))) ≤ n
met_short Idle held n = omega arith
met_short (Asked k) held n = omega arith
met_short Held held n = take_short n held
met_short (Failed kind) held n = rw fault_bytes (omega arith)
met_short Closed held n = omega arith

read_short : (s : Shared) (n : ℕ) → length (bytes_read (reading_of s n)) ≤ n
read_short s zero = omega arith
read_short s (suc n) = met_short s.mode s.held (suc n)

piece_short : (sizes : Sizes) (reader : Reader) (bytes : List ℕ) (rest : List Printed) → length bytes ≤ size_of sizes reader → AreShort sizes rest → AreShort sizes (piece_of reader bytes ++ rest)
piece_short sizes reader [] rest h k = k
piece_short sizes reader (b ∷ bytes) rest h k = (h, k)

event_short : (sizes : Sizes) (reader : Reader) (ev : Event) (given bytes : List ℕ) (s : Standing) (rest : List Printed) → Fits sizes reader ev → bytes ≡ bytes_to ev given s → AreShort sizes rest → AreShort sizes (piece_by ev reader bytes ++ rest)
event_short sizes reader event.Join given bytes s rest f b k = k
event_short sizes reader (event.Read n) given bytes s rest f b k =
    let short : length bytes ≤ n = rw b (read_short s.shared n) in
    piece_short sizes reader bytes rest (omega (arith, f, short)) k
event_short sizes reader (event.Skip n) given bytes s rest f b k = absurd f
event_short sizes reader event.Ready given bytes s rest f b k = k
event_short sizes reader (event.Block w) given bytes s rest f b k = k
event_short sizes reader (event.PollRead w n) given bytes s rest f b k = absurd f
event_short sizes reader (event.WaitOver w) given bytes s rest f b k = k
event_short sizes reader event.Capture given bytes s rest f b k = k
event_short sizes reader (event.Deliver o) given bytes s rest f b k = k
event_short sizes reader event.Stop given bytes s rest f b k = absurd f
event_short sizes reader event.SawStop given bytes s rest f b k = k

short_pieces : (sizes : Sizes) (first n : ℕ) (s : Standing) (es : List Entry) → AreLegal n s es → AreFitting sizes first es → AreShort sizes (pieces_in first es)
short_pieces sizes first n s [] l f = tt
short_pieces sizes first n s (e ∷ es) l f = event_short sizes (reader_of first e.pass) e.event e.bytes e.bytes s (pieces_in first es) f.0 (ap (λ (x : Entry). x.bytes) l.0.is) (short_pieces sizes first (n + 1) (after_entry e s) es l.1 f.1)

piece_joined : (reader : Reader) (bytes : List ℕ) (rest : List Printed) → joined (piece_of reader bytes ++ rest) ≡ bytes ++ joined rest
piece_joined reader [] rest = refl
piece_joined reader (b ∷ bytes) rest = refl

event_joined : (sizes : Sizes) (reader : Reader) (ev : Event) (bytes : List ℕ) (rest : List Printed) → Fits sizes reader ev → joined (piece_by ev reader bytes ++ rest) ≡ out_of ev bytes ++ joined rest
event_joined sizes reader event.Join bytes rest f = refl
event_joined sizes reader (event.Read n) bytes rest f = piece_joined reader bytes rest
event_joined sizes reader (event.Skip n) bytes rest f = absurd f
event_joined sizes reader event.Ready bytes rest f = refl
event_joined sizes reader (event.Block w) bytes rest f = refl
event_joined sizes reader (event.PollRead w n) bytes rest f = absurd f
event_joined sizes reader (event.WaitOver w) bytes rest f = refl
event_joined sizes reader event.Capture bytes rest f = refl
event_joined sizes reader (event.Deliver o) bytes rest f = refl
event_joined sizes reader event.Stop bytes rest f = absurd f
event_joined sizes reader event.SawStop bytes rest f = refl

pieces_joined : (sizes : Sizes) (first : ℕ) (es : List Entry) → AreFitting sizes first es → joined (pieces_in first es) ≡ handed_out es
pieces_joined sizes first [] f = refl
pieces_joined sizes first (e ∷ es) f = event_joined sizes (reader_of first e.pass) e.event e.bytes (pieces_in first es) f.0 ∙ ap (λ bs. out_of e.event e.bytes ++ bs) (pieces_joined sizes first es f.1)

-- What was collected.

-- all that the theorem needs of the run
record Run (sizes : Sizes) (start w a b : Passing) (h : List Entry) : Type 0 where
  fits : AreFitting sizes a.number h
  legal : AreLegal 0 opening h
  last : last_in h ≡ last_by None (added_to start w)
  ends : has_last (added_to start w) ≡ true
  brought : brought_in start.entries ≡ []

or_none : (b : Bool) → b || false ≡ b
or_none true = refl
or_none false = refl

run_of : (sizes : Sizes) (start w a b : Passing) (before after : Option Told) (faults now : ℕ) (h : List Entry) (pieces held : List ℕ) → start.number ≡ 0 → IsJoined start → Worked start w before after faults now → is_done w.entries ≡ true → IsReader sizes.first a → IsReader sizes.second b → IsCollected w (a ∷ b ∷ []) h pieces held → Run sizes start w a b h
run_of sizes start w a b before after faults now h pieces held z joins works done ra rb all =
    let parts = three w a b h ra.some rb.some all.whole in
    let number : w.number ≡ 0 = works.adds.number ∙ z in
    let first : w.entries ≡ start.entries ++ added_to start w = works.adds.entries in
    let workers : AreWorkers w.entries = subst (λ es. AreWorkers es) (sym first) (subst (λ es. AreWorkers (es ++ added_to start w)) (sym joins.entries) (refl, rounds_workers (added_to start w) works.rounds)) in
    let fits : AreFitting sizes a.number h = fitting sizes w.number a.number b.number h parts.differ parts.among (subst (λ es. AreWorkers es) parts.worker workers) (subst (λ es. AreReaders sizes.first es) parts.first ra.events) (subst (λ es. AreReaders sizes.second es) parts.second rb.events) in
    let none : has_sight h ≡ false = quiet sizes a.number 0 opening h all.whole.legal fits refl in
    let unseen : has_sight w.entries ≡ false = ap has_sight parts.worker ∙ sight_part w.number h none in
    let ends : has_last w.entries ≡ true = sym (or_none (has_last w.entries)) ∙ (ap (λ c. has_last w.entries || c) (sym unseen) ∙ done) in
    let added : has_last w.entries ≡ has_last (added_to start w) = ap has_last first ∙ ap (λ es. has_last (es ++ added_to start w)) joins.entries in
    let mine : w.entries ≡ part_of 0 h = parts.worker ∙ ap (λ n. part_of n h) number in
    record {
      fits = fits;
      legal = all.whole.legal;
      last = last_part 0 opening h all.whole.legal None ∙ (ap (last_by None) (sym mine) ∙ (ap (last_by None) first ∙ ap (λ es. last_by None (es ++ added_to start w)) joins.entries));
      ends = sym added ∙ ends;
      brought = ap brought_in joins.entries;
    }

-- the history has an end or a fault for its last delivery
pub has_end : (sizes : Sizes) (start w a b : Passing) (before after : Option Told) (faults now : ℕ) (h : List Entry) (pieces held : List ℕ) → start.number ≡ 0 → IsJoined start → Worked start w before after faults now → is_done w.entries ≡ true → IsReader sizes.first a → IsReader sizes.second b → IsCollected w (a ∷ b ∷ []) h pieces held → last_in h ≡ None → ⊥
has_end sizes start w a b before after faults now h pieces held z joins works done ra rb all e =
    let r = run_of sizes start w a b before after faults now h pieces held z joins works done ra rb all in
    ended (added_to start w) works.rounds r.ends None (sym r.last ∙ e)

on_fault : (o : Last) (es : List Entry) (faults now : ℕ) → last_by None es ≡ Some o → (has_fault es ≡ true → Rose faults now) → OnFault o (Rose faults now)
on_fault last.End es faults now e h = tt
on_fault (last.Fault kind) es faults now e h = h (fault_delivered es kind e)

append_nil : (xs : List ℕ) → xs ++ [] ≡ xs
append_nil xs = grind (arith, common_steps)

-- a race of which all was collected
pub raced : (sizes : Sizes) (start w a b : Passing) (before after : Option Told) (faults now : ℕ) (h : List Entry) (pieces held : List ℕ) → start.number ≡ 0 → IsJoined start → Worked start w before after faults now → is_done w.entries ≡ true → IsReader sizes.first a → IsReader sizes.second b → IsCollected w (a ∷ b ∷ []) h pieces held → DeliveriesKeepTheInput → (o : Last) → last_in h ≡ Some o → IsRaced sizes (pieces_in a.number h) o before after faults now
raced sizes start w a b before after faults now h pieces held z joins works done ra rb all law o e =
    let r = run_of sizes start w a b before after faults now h pieces held z joins works done ra rb all in
    let last : last_by None (added_to start w) ≡ Some o = sym r.last ∙ e in
    let none : held ≡ [] = all.rest ∙ held_none sizes a.number opening h None o r.fits (λ p q. refl) e in
    let out : joined (pieces_in a.number h) ≡ brought_in w.entries = pieces_joined sizes a.number h r.fits ∙ (sym all.out ∙ (sym (append_nil pieces) ∙ (ap (λ bs. pieces ++ bs) (sym none) ∙ (all.all ∙ all.mine)))) in
    record {
      short = short_pieces sizes a.number 0 opening h r.legal r.fits;
      fault = on_fault o (added_to start w) faults now last works.reads.cause;
      told = λ t is.
          let told = works.reads.told t is in
          let u = told_by_rounds t (added_to start w) in
          let f = finished t (added_to start w) works.rounds told.0 r.ends None o last in
          let kept : brought_in w.entries ++ u.left ≡ brought_in start.entries ++ t.left = law start w before after faults now t u works is told.1 in (
            u,
            told.1,
            record {
              done = f.done;
              plan = f.plan;
              all = ap (λ bs. bs ++ u.left) out ∙ (kept ∙ ap (λ bs. bs ++ t.left) r.brought);
              ends = f.ends;
            },
          );
    }
