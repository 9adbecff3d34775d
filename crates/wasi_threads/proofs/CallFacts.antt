-- What calls add to their pass.
use Rattle.std.proofs.Common.{◌≡◌, ℕ, ◌<◌, Bool, true, false, ◌||◌, List, [], ◌∷◌, ◌++◌, length, refl, arith, ◌∙◌, sym, ap, Option, Some, None, suc, zero}
use Rattle.std.specs.Prelude.{not, MatchBool}
use Rattle.wasi_stdin.specs.Shared.{Reading, Bytes, Ended, Fault, bytes_read, Skipped, Count, skipped}
use Rattle.wasi_threads.specs.declared.entry.Entry.{Entry}
use Rattle.wasi_threads.specs.declared.entry.Event.TheVariants as event
use Rattle.wasi_threads.specs.declared.entry.Kept.TheVariants as kept
use Rattle.wasi_threads.specs.declared.worker.WorkerEnd.{WorkerEnd}
use Rattle.wasi_threads.specs.declared.worker.WorkerEnd.TheVariants as end
use Rattle.wasi_threads.specs.History.{Standing, entry_for, kept_reading, last_bytes, last_number}
use Rattle.wasi_threads.specs.Passes.{Passing, has_stop, has_sight}
use Rattle.wasi_threads.specs.Calls.{Gains, IsJoined, AddsSkip, AddsStop, kept_skipped, count_skipped}
use Rattle.wasi_threads.specs.Rounds.{has_last, is_last, delivery_of}
use Rattle.wasi_threads.specs.Ends.{end_holds}
use Rattle.wasi_threads.proofs.HistoryFacts.{bytes_more, sight_more}

-- a new pass
pub joined_is : (p : Passing) (n : ℕ) (s : Standing) → p.entries ≡ entry_for n p.number event.Join [] s ∷ [] → IsJoined p
joined_is p n s h =
    let last : last_number p.entries ≡ n = ap last_number h in
    record { entries = h ∙ ap {B = List Entry} (λ k. record { number = k; pass = p.number; event = event.Join; answer = kept.None; bytes = []; wait = None } ∷ []) (sym last) }

kept_same : (r : Reading) → kept_reading r ≡ kept_skipped (skipped r)
kept_same (Bytes bytes) = refl
kept_same Ended = refl
kept_same (Fault kind) = refl

count_same : (r : Reading) → length (bytes_read r) ≡ count_skipped (skipped r)
count_same (Bytes bytes) = refl
count_same Ended = refl
count_same (Fault kind) = refl

skip_some : (before after : Passing) (n : ℕ) (r : Reading) → Gains before after (event.Skip (suc n)) (kept_reading r) (bytes_read r) None → AddsSkip before after (suc n) (skipped r)
skip_some before after n r h =
    let last : last_bytes after.entries ≡ bytes_read r = ap last_bytes h.entries ∙ bytes_more before.entries _ in (
      record { entries = rw (last, ← kept_same r) h.entries; number = h.number },
      ap (λ bs. length bs) last ∙ count_same r,
    )

-- a skip that a read's answer was given for
pub skip_adds : (before after : Passing) (size : ℕ) (r : Reading) (a : Skipped) → 0 < size → Gains before after (event.Skip size) (kept_reading r) (bytes_read r) None → a ≡ skipped r → AddsSkip before after size a
skip_adds before after zero r a l h e = absurd (omega arith)
skip_adds before after (suc n) r a l h e = rw e (skip_some before after n r h)

pub skip_none : (before : Passing) (size : ℕ) → size ≡ 0 → AddsSkip before before size (Count 0)
skip_none before size h = rw h (refl, refl)

or_none : (b : Bool) → b || false ≡ b
or_none true = refl
or_none false = refl

or_assoc : (a b c : Bool) → (a || b) || c ≡ a || (b || c)
or_assoc true b c = refl
or_assoc false b c = refl

last_append : (xs ys : List Entry) → has_last (xs ++ ys) ≡ has_last xs || has_last ys
last_append [] ys = refl
last_append (x ∷ xs) ys = ap (λ b. is_last (delivery_of x.event) || b) (last_append xs ys) ∙ sym (or_assoc (is_last (delivery_of x.event)) (has_last xs) (has_last ys))

gains_stays : (e : Option WorkerEnd) (a b : Passing) → Gains a b event.Stop kept.None [] None → end_holds e a.entries ≡ true → end_holds e b.entries ≡ true
gains_stays None a b g h = ap (λ es. not (has_sight es)) g.entries ∙ (ap not (sight_more a.entries _) ∙ h)
gains_stays (Some end.Stopped) a b g h = ap has_sight g.entries ∙ (sight_more a.entries _ ∙ h)
gains_stays (Some end.Ended) a b g h = ap has_last g.entries ∙ (last_append a.entries _ ∙ (or_none (has_last a.entries) ∙ h))

stays_by : (stopped : Bool) (e : Option WorkerEnd) (a b : Passing) → MatchBool stopped (b ≡ a) (Gains a b event.Stop kept.None [] None) → end_holds e a.entries ≡ true → end_holds e b.entries ≡ true
stays_by true e a b s h = ap (λ (p : Passing). end_holds e p.entries) s ∙ h
stays_by false e a b s h = gains_stays e a b s h

-- a stop leaves why the worker is done
pub end_stays : (e : Option WorkerEnd) (a b : Passing) → AddsStop a b → end_holds e a.entries ≡ true → end_holds e b.entries ≡ true
end_stays e a b s h = stays_by (has_stop a.entries) e a b s h
