-- What the worker's rounds do to the plan of a source that tells, and how they end.
use Rattle.std.proofs.Common.{◌≡◌, ℕ, Bool, true, false, ◌||◌, List, [], ◌∷◌, ◌++◌, refl, ◌∙◌, sym, ap, subst, Option, Some, None, append_assoc}
use Rattle.wasi_base.specs.declared.io_kind.IoKind.{IoKind}
use Rattle.wasi_base.specs.declared.source.Plan.{Plan}
use Rattle.wasi_base.specs.declared.source.Plan.TheVariants as plan
use Rattle.wasi_base.specs.Source.{Told, gives, told_after, given_by, told_by}
use Rattle.wasi_stdin.specs.Shared.{outcome_of}
use Rattle.wasi_stdin.specs.declared.answer.Outcome.TheVariants as outcome
use Rattle.wasi_threads.specs.declared.entry.Entry.{Entry}
use Rattle.wasi_threads.specs.declared.entry.Event.{Event}
use Rattle.wasi_threads.specs.declared.entry.Event.TheVariants as event
use Rattle.wasi_threads.specs.Rounds.{AreRounds, AreReadsOf, IsReadOf, told_by_rounds, size_kept, delivery_of, is_last, is_fault, has_last, has_fault}
use Rattle.wasi_race.specs.declared.outcome.Last.{Last}
use Rattle.wasi_race.specs.declared.outcome.Last.TheVariants as last
use Rattle.wasi_race.specs.History.{newer, last_by, last_given}
use Rattle.wasi_race.specs.Races.{EndsBy, NoFaults}

pub record Finished (t u : Told) (o : Last) : Type 0 where
  pub done : List Plan
  pub plan : t.plan ≡ done ++ u.plan
  pub ends : EndsBy o done u.left

some_last : (a b : Last) → Some a ≡ Some b → a ≡ b
some_last a b h = cc

none_some : {A : Type 0} (o : Last) → None ≡ Some o → A
none_some o h = absurd (let e : None ≡ Some o = h in cc)

-- the read that the rounds end with
last_read : (items : List Plan) (left : List ℕ) (r : ℕ) (o : Last) → last_given (outcome_of (given_by items left r)) ≡ Some o → Finished (record { left = left; plan = items }) (told_by items left r) o
last_read (plan.Fail kind ∷ items) left r o h = subst (λ p. Finished (record { left = left; plan = plan.Fail kind ∷ items }) (record { left = left; plan = items }) p) (some_last (last.Fault kind) o h) (record { done = plan.Fail kind ∷ []; plan = refl; ends = ([], refl, tt) })
last_read (plan.Take k ∷ items) [] r o h = subst (λ p. Finished (record { left = []; plan = plan.Take k ∷ items }) (record { left = []; plan = plan.Take k ∷ items }) p) (some_last last.End o h) (record { done = []; plan = refl; ends = (refl, tt) })
last_read (plan.Take k ∷ items) (b ∷ left) r o h = none_some o h
last_read [] [] r o h = subst (λ p. Finished (record { left = []; plan = [] }) (record { left = []; plan = [] }) p) (some_last last.End o h) (record { done = []; plan = refl; ends = (refl, tt) })
last_read [] (b ∷ left) r o h = none_some o h

true_false : {A : Type 0} → true ≡ false → A
true_false h = absurd (let e : true ≡ false = h in cc)

-- the items that a read which gave bytes did
record Went (items rest : List Plan) : Type 0 where
  done : List Plan
  plan : items ≡ done ++ rest
  none : NoFaults done

went : (items : List Plan) (left : List ℕ) (r : ℕ) → is_last (Some (outcome_of (given_by items left r))) ≡ false → Went items (told_by items left r).plan
went (plan.Fail kind ∷ items) left r h = true_false h
went (plan.Take k ∷ items) [] r h = true_false h
went (plan.Take k ∷ items) (b ∷ left) r h = record { done = plan.Take k ∷ []; plan = refl; none = tt }
went [] [] r h = true_false h
went [] (b ∷ left) r h = record { done = []; plan = refl; none = tt }

no_more : (xs ys : List Plan) → NoFaults xs → NoFaults ys → NoFaults (xs ++ ys)
no_more [] ys h k = k
no_more (plan.Take n ∷ xs) ys h k = no_more xs ys h k
no_more (plan.Fail kind ∷ xs) ys h k = absurd h

ends_more : (o : Last) (xs ys : List Plan) (left : List ℕ) → NoFaults xs → EndsBy o ys left → EndsBy o (xs ++ ys) left
ends_more last.End xs ys left h k = (k.0, no_more xs ys h k.1)
ends_more (last.Fault kind) xs ys left h k = (xs ++ k.0, ap (λ zs. xs ++ zs) k.1 ∙ sym (append_assoc xs k.0 (plan.Fail kind ∷ [])), no_more xs k.0 h k.2)

finished_more : (t u v : Told) (o : Last) → Went t.plan u.plan → Finished u v o → Finished t v o
finished_more t u v o w f = record {
  done = w.done ++ f.done;
  plan = w.plan ∙ (ap (λ items. w.done ++ items) f.plan ∙ sym (append_assoc w.done f.done v.plan));
  ends = ends_more o w.done f.done v.left w.none f.ends;
}

-- the newest end or fault after a round
newest : (t : Told) (c d : Entry) (before : Option Last) → IsReadOf t c d → newer d.event (newer c.event before) ≡ last_given (outcome_of (gives t (size_kept c.answer)))
newest t c d before r = rw r.event refl

delivers : (t : Told) (c d : Entry) → IsReadOf t c d → delivery_of d.event ≡ Some (outcome_of (gives t (size_kept c.answer)))
delivers t c d r = rw r.event refl

false_last : (c : Entry) → c.event ≡ event.SawStop → has_last (c ∷ []) ≡ false
false_last c h = rw h refl

capture_last : (c d : Entry) (es : List Entry) → c.event ≡ event.Capture → is_last (delivery_of d.event) ≡ false → has_last (c ∷ d ∷ es) ≡ has_last es
capture_last c d es h k = rw (h, k) refl

last_round : (t : Told) (c d : Entry) (before : Option Last) (o : Last) → IsReadOf t c d → last_by before (c ∷ d ∷ []) ≡ Some o → Finished t (told_after t (size_kept c.answer)) o
last_round t c d before o r e = last_read t.plan t.left (size_kept c.answer) o (sym (newest t c d before r) ∙ e)

by_round : (b : Bool) (t : Told) (c d : Entry) (es : List Entry) (before : Option Last) (o : Last) → is_last (delivery_of d.event) ≡ b → c.event ≡ event.Capture → IsReadOf t c d → (is_last (delivery_of d.event) ≡ true → es ≡ []) → has_last (c ∷ d ∷ es) ≡ true → last_by before (c ∷ d ∷ es) ≡ Some o → (has_last es ≡ true → Finished (told_after t (size_kept c.answer)) (told_by_rounds (told_after t (size_kept c.answer)) es) o) → Finished t (told_by_rounds (told_after t (size_kept c.answer)) es) o
by_round true t c d es before o b p r only l e rest =
    let none : es ≡ [] = only b in
    let e' : last_by before (c ∷ d ∷ []) ≡ Some o = subst (λ xs. last_by before (c ∷ d ∷ xs) ≡ Some o) none e in
    subst (λ xs. Finished t (told_by_rounds (told_after t (size_kept c.answer)) xs) o) (sym none) (last_round t c d before o r e')
by_round false t c d es before o b p r only l e rest =
    let gave : is_last (Some (outcome_of (gives t (size_kept c.answer)))) ≡ false = sym (ap is_last (delivers t c d r)) ∙ b in
    finished_more t (told_after t (size_kept c.answer)) _ o (went t.plan t.left (size_kept c.answer) gave) (rest (sym (capture_last c d es p b) ∙ l))

-- the rounds of a worker that ended, over a source that tells
pub finished : (t : Told) (es : List Entry) → AreRounds es → AreReadsOf t es → has_last es ≡ true → (before : Option Last) (o : Last) → last_by before es ≡ Some o → Finished t (told_by_rounds t es) o
finished t [] p h l before o e = absurd (let f : false ≡ true = l in cc)
finished t (c ∷ []) p h l before o e = absurd (let f : false ≡ true = sym (false_last c p) ∙ l in cc)
finished t (c ∷ d ∷ es) p h l before o e = by_round (is_last (delivery_of d.event)) t c d es before o refl p.0.capture h.0 p.1 l e (λ k. finished (told_after t (size_kept c.answer)) es p.2 h.1 k (newer d.event (newer c.event before)) o e)

last_newer : (ev : Event) (before : Option Last) → is_last (delivery_of ev) ≡ true → newer ev before ≡ None → ⊥
last_newer event.Join before h e = let f : false ≡ true = h in cc
last_newer (event.Read n) before h e = let f : false ≡ true = h in cc
last_newer (event.Skip n) before h e = let f : false ≡ true = h in cc
last_newer event.Ready before h e = let f : false ≡ true = h in cc
last_newer (event.Block w) before h e = let f : false ≡ true = h in cc
last_newer (event.PollRead w n) before h e = let f : false ≡ true = h in cc
last_newer (event.WaitOver w) before h e = let f : false ≡ true = h in cc
last_newer event.Capture before h e = let f : false ≡ true = h in cc
last_newer (event.Deliver (outcome.Gave n)) before h e = let f : false ≡ true = h in cc
last_newer (event.Deliver outcome.End) before h e = none_some last.End (sym e)
last_newer (event.Deliver (outcome.Fault kind)) before h e = none_some (last.Fault kind) (sym e)
last_newer event.Stop before h e = let f : false ≡ true = h in cc
last_newer event.SawStop before h e = let f : false ≡ true = h in cc

ended_by : (b : Bool) (c d : Entry) (es : List Entry) (before : Option Last) → is_last (delivery_of d.event) ≡ b → c.event ≡ event.Capture → (is_last (delivery_of d.event) ≡ true → es ≡ []) → has_last (c ∷ d ∷ es) ≡ true → last_by before (c ∷ d ∷ es) ≡ None → (has_last es ≡ true → ⊥) → ⊥
ended_by true c d es before b p only l e rest =
    let e' : newer d.event (newer c.event before) ≡ None = subst (λ xs. last_by before (c ∷ d ∷ xs) ≡ None) (only b) e in
    last_newer d.event (newer c.event before) b e'
ended_by false c d es before b p only l e rest = rest (sym (capture_last c d es p b) ∙ l)

-- rounds with an end or a fault among them close with it
pub ended : (es : List Entry) → AreRounds es → has_last es ≡ true → (before : Option Last) → last_by before es ≡ None → ⊥
ended [] p l before e = let f : false ≡ true = l in cc
ended (c ∷ []) p l before e = let f : false ≡ true = sym (false_last c p) ∙ l in cc
ended (c ∷ d ∷ es) p l before e = ended_by (is_last (delivery_of d.event)) c d es before refl p.0.capture p.1 l e (λ k. ended es p.2 k (newer d.event (newer c.event before)) e)

or_parts : (a b : Bool) → a || b ≡ false → (a ≡ false) × (b ≡ false)
or_parts true b h = true_false h
or_parts false b h = (refl, h)

fault_newer : (ev : Event) (before : Option Last) (kind : IoKind) → is_fault (delivery_of ev) ≡ false → newer ev before ≡ Some (last.Fault kind) → before ≡ Some (last.Fault kind)
fault_newer event.Join before kind h e = e
fault_newer (event.Read n) before kind h e = e
fault_newer (event.Skip n) before kind h e = e
fault_newer event.Ready before kind h e = e
fault_newer (event.Block w) before kind h e = e
fault_newer (event.PollRead w n) before kind h e = e
fault_newer (event.WaitOver w) before kind h e = e
fault_newer event.Capture before kind h e = e
fault_newer (event.Deliver (outcome.Gave n)) before kind h e = none_some (last.Fault kind) e
fault_newer (event.Deliver outcome.End) before kind h e = absurd (let f : Some last.End ≡ Some (last.Fault kind) = e in cc)
fault_newer (event.Deliver (outcome.Fault k)) before kind h e = true_false h
fault_newer event.Stop before kind h e = e
fault_newer event.SawStop before kind h e = e

fault_from : (es : List Entry) (before : Option Last) (kind : IoKind) → has_fault es ≡ false → last_by before es ≡ Some (last.Fault kind) → before ≡ Some (last.Fault kind)
fault_from [] before kind h e = e
fault_from (x ∷ es) before kind h e =
    let parts = or_parts (is_fault (delivery_of x.event)) (has_fault es) h in
    fault_newer x.event before kind parts.0 (fault_from es (newer x.event before) kind parts.1 e)

fault_by : (b : Bool) (es : List Entry) (kind : IoKind) → has_fault es ≡ b → last_by None es ≡ Some (last.Fault kind) → has_fault es ≡ true
fault_by true es kind h e = h
fault_by false es kind h e = none_some (last.Fault kind) (fault_from es None kind h e)

-- a fault at the end was delivered
pub fault_delivered : (es : List Entry) (kind : IoKind) → last_by None es ≡ Some (last.Fault kind) → has_fault es ≡ true
fault_delivered es kind e = fault_by (has_fault es) es kind refl e
