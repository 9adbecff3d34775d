-- Rounds one after another.
use Rattle.std.proofs.Common.{◌≡◌, ℕ, ◌≤◌, Bool, true, false, ◌||◌, List, [], ◌∷◌, ◌++◌, length, refl, arith, ◌∙◌, sym, ap, Option, Some, None, append_assoc, drop}
use Rattle.std.proofs.lemmas.Grind.{common_steps}
use Rattle.std.specs.Prelude.{not}
use Rattle.wasi_base.specs.Source.{Told, Gives, gives, told_after}
use Rattle.wasi_stdin.specs.declared.answer.Outcome.{Outcome}
use Rattle.wasi_stdin.specs.declared.answer.Outcome.TheVariants as outcome
use Rattle.wasi_stdin.specs.Shared.{outcome_of, outcome_given, FitsOutcome}
use Rattle.wasi_threads.specs.declared.entry.Entry.{Entry}
use Rattle.wasi_threads.specs.declared.entry.Event.TheVariants.{Capture, Deliver, SawStop}
use Rattle.wasi_threads.specs.declared.entry.Kept.TheVariants as kept
use Rattle.wasi_base.specs.Causes.{Rose}
use Rattle.wasi_threads.specs.Passes.{Passing, has_sight}
use Rattle.wasi_threads.proofs.HistoryFacts.{sight_more}
use Rattle.wasi_threads.specs.Calls.{Gains, SamePass}
use Rattle.wasi_threads.specs.History.{last_number}
use Rattle.wasi_threads.specs.Rounds.{AreGiving, AreRounds, AreReadsOf, told_by_rounds, Reads, Adds, added_to, Gave, Worked, IsPair, bytes_given, size_kept, has_last, has_fault, is_last, is_fault, delivery_of}
use Rattle.wasi_stdin.specs.Shared.{OnFault}

or_true : (b : Bool) → b || true ≡ true
or_true true = refl
or_true false = refl

drop_append : (xs ys : List Entry) → drop (length xs) (xs ++ ys) ≡ ys
drop_append [] ys = refl
drop_append (x ∷ xs) ys = drop_append xs ys

-- what was added, from the list after it
pub added_is : (before after : Passing) (ys : List Entry) → after.entries ≡ before.entries ++ ys → added_to before after ≡ ys
added_is before after ys h = ap (drop (length before.entries)) h ∙ drop_append before.entries ys

pub adds_of : (before after : Passing) (ys : List Entry) → after.entries ≡ before.entries ++ ys → after.number ≡ before.number → Adds before after
adds_of before after ys h n = record { entries = h ∙ ap (λ zs. before.entries ++ zs) (sym (added_is before after ys h)); number = n }

pairs_more : (xs ys : List Entry) → AreGiving xs → AreGiving ys → AreGiving (xs ++ ys)
pairs_more [] ys h k = k
pairs_more (c ∷ []) ys h k = absurd h
pairs_more (c ∷ d ∷ es) ys h k = (h.0, h.1, pairs_more es ys h.2 k)

not_both : (b : Bool) (P : Type 0) → b ≡ false → b ≡ true → P
not_both b P h k = absurd (let e : false ≡ true = sym h ∙ k in cc)

rounds_more : (xs ys : List Entry) → AreGiving xs → AreRounds ys → AreRounds (xs ++ ys)
rounds_more [] ys h k = k
rounds_more (c ∷ []) ys h k = absurd h
rounds_more (c ∷ d ∷ es) ys h k = (h.0, (λ t. not_both (is_last (delivery_of d.event)) (es ++ ys ≡ []) h.1 t), rounds_more es ys h.2 k)

reads_more : (t : Told) (xs ys : List Entry) → AreGiving xs → AreReadsOf t xs → AreReadsOf (told_by_rounds t xs) ys → AreReadsOf t (xs ++ ys) × (told_by_rounds t (xs ++ ys) ≡ told_by_rounds (told_by_rounds t xs) ys)
reads_more t [] ys p h k = (k, refl)
reads_more t (c ∷ []) ys p h k = absurd p
reads_more t (c ∷ d ∷ es) ys p h k =
    let rest = reads_more (told_after t (size_kept c.answer)) es ys p.2 h.1 k in
    ((h.0, rest.0), rest.1)

or_assoc : (a b c : Bool) → (a || b) || c ≡ a || (b || c)
or_assoc true b c = refl
or_assoc false b c = refl

fault_append : (xs ys : List Entry) → has_fault (xs ++ ys) ≡ has_fault xs || has_fault ys
fault_append [] ys = refl
fault_append (x ∷ xs) ys = ap (λ b. is_fault (delivery_of x.event) || b) (fault_append xs ys) ∙ sym (or_assoc (is_fault (delivery_of x.event)) (has_fault xs) (has_fault ys))

rose_or : (a b : Bool) (f g h : ℕ) → f ≤ g → g ≤ h → (a ≡ true → Rose f g) → (b ≡ true → Rose g h) → a || b ≡ true → Rose f h
rose_or true b f g h l m one two is = let r : Rose f g = one refl in omega arith
rose_or false b f g h l m one two is = let r : Rose g h = two is in omega arith

pub reads_next : (a b c : Option Told) (f g h : ℕ) (xs ys : List Entry) → AreGiving xs → Reads a b f g xs → Reads b c g h ys → Reads a c f h (xs ++ ys)
reads_next a b c f g h xs ys p one two = record {
  told = λ t e.
      let first = one.told t e in
      let second = two.told (told_by_rounds t xs) first.1 in
      let both = reads_more t xs ys p first.0 second.0 in
      (both.0, second.1 ∙ ap Some (sym both.1));
  later = let l = one.later in let m = two.later in omega arith;
  cause = λ is. rose_or (has_fault xs) (has_fault ys) f g h one.later two.later one.cause two.cause (sym (fault_append xs ys) ∙ is);
}

added_more : (a b c : Passing) → Adds a b → Adds b c → c.entries ≡ a.entries ++ (added_to a b ++ added_to b c)
added_more a b c h k = k.entries ∙ (ap (λ xs. xs ++ added_to b c) h.entries ∙ append_assoc a.entries (added_to a b) (added_to b c))

no_reads : (t : Option Told) (f : ℕ) → Reads t t f f []
no_reads t f = record { told = λ u h. (tt, h); later = omega arith; cause = λ is. absurd (let e : false ≡ true = is in cc) }

pub gave_none : (p : Passing) (t : Option Told) (f : ℕ) → Gave p p t t f f
gave_none p t f =
    let e : p.entries ≡ p.entries ++ [] = grind (arith, common_steps) in
    let a : added_to p p ≡ [] = added_is p p [] e in
    record { adds = adds_of p p [] e refl; pairs = rw a tt; reads = rw a (no_reads t f) }

pub gave_more : (a b c : Passing) (t u v : Option Told) (f g h : ℕ) → Gave a b t u f g → Gave b c u v g h → Gave a c t v f h
gave_more a b c t u v f g h one two =
    let e = added_more a b c one.adds two.adds in
    let a' : added_to a c ≡ added_to a b ++ added_to b c = added_is a c (added_to a b ++ added_to b c) e in
    record { adds = adds_of a c _ e (two.adds.number ∙ one.adds.number); pairs = rw a' (pairs_more _ _ one.pairs two.pairs); reads = rw a' (reads_next t u v f g h _ _ one.pairs one.reads two.reads) }

pub worked_more : (a b c : Passing) (t u v : Option Told) (f g h : ℕ) → Gave a b t u f g → Worked b c u v g h → Worked a c t v f h
worked_more a b c t u v f g h one two =
    let e = added_more a b c one.adds two.adds in
    let a' : added_to a c ≡ added_to a b ++ added_to b c = added_is a c (added_to a b ++ added_to b c) e in
    record { adds = adds_of a c _ e (two.adds.number ∙ one.adds.number); rounds = rw a' (rounds_more _ _ one.pairs two.rounds); reads = rw a' (reads_next t u v f g h _ _ one.pairs one.reads two.reads) }

giving_rounds : (xs : List Entry) → AreGiving xs → AreRounds xs
giving_rounds [] h = tt
giving_rounds (c ∷ []) h = absurd h
giving_rounds (c ∷ d ∷ es) h = (h.0, (λ t. not_both (is_last (delivery_of d.event)) (es ≡ []) h.1 t), giving_rounds es h.2)

-- an outcome with its bytes is that of what was given
outcome_back : (o : Outcome) (bytes : List ℕ) (size : ℕ) → FitsOutcome o bytes size → (o ≡ outcome_of (outcome_given o bytes)) × (bytes ≡ bytes_given (outcome_given o bytes))
outcome_back (outcome.Gave n) bytes size h = (ap outcome.Gave (sym h.2), refl)
outcome_back outcome.End bytes size h = (refl, h)
outcome_back (outcome.Fault kind) bytes size h = (refl, h)

-- a capture and its delivery, as they stand in the pass, with their one read
pub record Rounded (a c : Passing) (o : Outcome) (t u : Option Told) (f g : ℕ) : Type 0 where
  pub capture : Entry
  pub deliver : Entry
  pub entries : c.entries ≡ a.entries ++ (capture ∷ deliver ∷ [])
  pub number : c.number ≡ a.number
  pub pair : IsPair capture deliver
  pub outcome : delivery_of deliver.event ≡ Some o
  pub reads : Reads t u f g (capture ∷ deliver ∷ [])

fault_cause : (o : Outcome) (f g : ℕ) → OnFault o (Rose f g) → is_fault (Some o) || false ≡ true → Rose f g
fault_cause (outcome.Gave n) f g h is = absurd (let e : false ≡ true = is in cc)
fault_cause outcome.End f g h is = absurd (let e : false ≡ true = is in cc)
fault_cause (outcome.Fault kind) f g h is = h

pub round_of : (a b c : Passing) (size : ℕ) (o : Outcome) (bytes : List ℕ) (t u : Option Told) (f g : ℕ) → Gains a b Capture (kept.Count size) [] None → Gains b c (Deliver o) kept.None bytes None → FitsOutcome o bytes size → Gives t size (outcome_given o bytes) u → f ≤ g → OnFault o (Rose f g) → Rounded a c o t u f g
round_of a b c size o bytes t u f g h k fits gives later fault =
    let one : Entry = record { number = last_number b.entries; pass = a.number; event = Capture; answer = kept.Count size; bytes = []; wait = None } in
    let two : Entry = record { number = last_number c.entries; pass = b.number; event = Deliver o; answer = kept.None; bytes = bytes; wait = None } in
    let back = outcome_back o bytes size fits in
    record {
      capture = one;
      deliver = two;
      entries = k.entries ∙ (ap (λ xs. xs ++ two ∷ []) h.entries ∙ append_assoc a.entries (one ∷ []) (two ∷ []));
      number = k.number ∙ h.number;
      pair = record { capture = refl; deliver = refl };
      outcome = refl;
      reads = record {
        told = λ told is.
            let given = gives.told told is in
            ((record { event = ap Deliver (back.0 ∙ ap outcome_of given.0); bytes = back.1 ∙ ap bytes_given given.0 }, tt), given.1);
        later = later;
        cause = fault_cause o f g fault;
      };
    }

-- a round that gave
pub round_gave : (a c : Passing) (o : Outcome) (t u : Option Told) (f g : ℕ) → is_last (Some o) ≡ false → Rounded a c o t u f g → Gave a c t u f g
round_gave a c o t u f g l r =
    let a' : added_to a c ≡ r.capture ∷ r.deliver ∷ [] = added_is a c _ r.entries in
    record { adds = adds_of a c _ r.entries r.number; pairs = rw a' (r.pair, ap is_last r.outcome ∙ l, tt); reads = rw a' r.reads }

-- any round
pub round_worked : (a c : Passing) (o : Outcome) (t u : Option Told) (f g : ℕ) → Rounded a c o t u f g → Worked a c t u f g
round_worked a c o t u f g r =
    let a' : added_to a c ≡ r.capture ∷ r.deliver ∷ [] = added_is a c _ r.entries in
    record { adds = adds_of a c _ r.entries r.number; rounds = rw a' (r.pair, (λ t. refl), tt); reads = rw a' r.reads }

-- a sight of a stop
pub sight_of : (a b : Passing) (t : Option Told) (f : ℕ) → Gains a b SawStop kept.None [] None → Worked a b t t f f
sight_of a b t f h =
    let a' = added_is a b _ h.entries in
    record { adds = adds_of a b _ h.entries h.number; rounds = rw a' refl; reads = rw a' (record { told = λ u e. (tt, e); later = omega arith; cause = λ is. absurd (let e : false ≡ true = is in cc) }) }

pub last_has : (xs : List Entry) (e : Entry) → is_last (delivery_of e.event) ≡ true → has_last (xs ++ e ∷ []) ≡ true
last_has [] e h = rw h refl
last_has (x ∷ xs) e h = rw (last_has xs e h) (or_true (is_last (delivery_of x.event)))

pub gains_sight : (a b : Passing) → Gains a b SawStop kept.None [] None → has_sight b.entries ≡ true
gains_sight a b h = ap has_sight h.entries ∙ sight_more a.entries _

pub gains_last : (a b : Passing) (o : Outcome) (bytes : List ℕ) → Gains a b (Deliver o) kept.None bytes None → is_last (Some o) ≡ true → has_last b.entries ≡ true
gains_last a b o bytes h l = ap has_last h.entries ∙ last_has a.entries _ l

-- a round shows no sight of a stop
pub gains_unseen : (a b c : Passing) (size : ℕ) (o : Outcome) (bytes : List ℕ) → Gains a b Capture (kept.Count size) [] None → Gains b c (Deliver o) kept.None bytes None → has_sight c.entries ≡ has_sight a.entries
gains_unseen a b c size o bytes h k = ap has_sight k.entries ∙ (sight_more b.entries _ ∙ (ap has_sight h.entries ∙ sight_more a.entries _))

-- a step that found no memory
pub worked_same : (a b c : Passing) (t u v : Option Told) (f g h : ℕ) → Gave a b t u f g → SamePass b c → v ≡ u → h ≡ g → Worked a c t v f h
worked_same a b c t u v f g h one s e k =
    let a' : added_to a c ≡ added_to a b = ap (drop (length a.entries)) s.entries in
    record { adds = record { entries = s.entries ∙ (one.adds.entries ∙ ap (λ xs. a.entries ++ xs) (sym a')); number = s.number ∙ one.adds.number }; rounds = rw a' (giving_rounds _ one.pairs); reads = rw (a', e, k) one.reads }

pub not_true : (b : Bool) → not b ≡ true → b ≡ false
not_true false h = refl
not_true true h = absurd (let e : false ≡ true = h in cc)
