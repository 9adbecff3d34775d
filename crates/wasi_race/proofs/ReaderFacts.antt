-- What the calls of a reader and of the worker add to their passes.
use Rattle.std.proofs.Common.{◌≡◌, ℕ, ◌<◌, Bool, true, false, ◌||◌, List, [], ◌∷◌, ◌++◌, length, refl, arith, ◌∙◌, sym, ap, subst, Option, Some, None, zero, suc, length-append}
use Rattle.std.proofs.lemmas.Bool.Decides.{nat_tests}
use Rattle.wasi_stdin.specs.Shared.{Reading, bytes_read}
use Rattle.wasi_threads.specs.declared.entry.Entry.{Entry}
use Rattle.wasi_threads.specs.declared.entry.Event.{Event}
use Rattle.wasi_threads.specs.declared.entry.Event.TheVariants as event
use Rattle.wasi_threads.specs.declared.entry.Kept.{Kept}
use Rattle.wasi_threads.specs.declared.entry.Kept.TheVariants as kept
use Rattle.wasi_threads.specs.declared.worker.WorkerEnd.{WorkerEnd}
use Rattle.wasi_threads.specs.declared.worker.WorkerEnd.TheVariants as end
use Rattle.wasi_threads.specs.Calls.{Gains, SamePass, IsJoined, AddsRead, AddsBlock, AddsWaitOver}
use Rattle.wasi_threads.specs.Ends.{end_holds}
use Rattle.wasi_threads.specs.History.{last_number, kept_reading}
use Rattle.wasi_threads.specs.Passes.{Passing, has_sight}
use Rattle.wasi_threads.specs.Rounds.{has_last}
use Rattle.wasi_race.specs.History.{is_readers, AreReaders, IsReader, is_done}

readers_more : (size : ℕ) (es : List Entry) (e : Entry) → AreReaders size es → is_readers size e.event ≡ true → AreReaders size (es ++ e ∷ [])
readers_more size [] e h k = (k, tt)
readers_more size (x ∷ xs) e h k = (h.0, readers_more size xs e h.1 k)

some_more : (es : List Entry) (e : Entry) → 0 < length (es ++ e ∷ [])
some_more es e = omega (arith, length-append es (e ∷ []))

gains_reads : (size : ℕ) (a b : Passing) (ev : Event) (answer : Kept) (bytes : List ℕ) (wait : Option ℕ) → is_readers size ev ≡ true → Gains a b ev answer bytes wait → IsReader size a → IsReader size b
gains_reads size a b ev answer bytes wait k g r =
    let e : Entry = record { number = last_number b.entries; pass = a.number; event = ev; answer = answer; bytes = bytes; wait = wait } in
    record {
      some = subst (λ es. 0 < length es) (sym g.entries) (some_more a.entries e);
      events = subst (λ es. AreReaders size es) (sym g.entries) (readers_more size a.entries e r.events k);
    }

pub joined_reads : (size : ℕ) (p : Passing) → IsJoined p → IsReader size p
joined_reads size p h = record {
  some = subst (λ es. 0 < length es) (sym h.entries) (omega arith);
  events = subst (λ es. AreReaders size es) (sym h.entries) (refl, tt);
}

pub read_adds : (size : ℕ) (a b : Passing) (r : Reading) → 0 < size → IsReader size a → AddsRead a b size r → IsReader size b
read_adds zero a b r l h k = absurd (omega arith)
read_adds (suc n) a b r l h k = gains_reads (suc n) a b (event.Read (suc n)) (kept_reading r) (bytes_read r) None (grind (arith, nat_tests)) k h

pub block_adds : (size : ℕ) (a b : Passing) (since : Option ℕ) (answer : Bool) (left : Option ℕ) → IsReader size a → AddsBlock a b since answer left → IsReader size b
block_adds size a b since answer left h k = gains_reads size a b (event.Block since) (kept.Flag answer) [] left refl k h

pub wait_adds : (size : ℕ) (a b : Passing) (since : Option ℕ) (answer : Bool) → IsReader size a → AddsWaitOver a b since answer → IsReader size b
wait_adds size a b since answer h k = gains_reads size a b (event.WaitOver since) (kept.Flag answer) [] None refl k h

pub same_reads : (size : ℕ) (a b : Passing) → IsReader size a → SamePass a b → IsReader size b
same_reads size a b h k = record {
  some = subst (λ es. 0 < length es) (sym k.entries) h.some;
  events = subst (λ es. AreReaders size es) (sym k.entries) h.events;
}

or_true : (b : Bool) → b || true ≡ true
or_true true = refl
or_true false = refl

-- a worker that is done
pub done_of : (e : WorkerEnd) (es : List Entry) → end_holds (Some e) es ≡ true → is_done es ≡ true
done_of end.Stopped es h = ap (λ b. has_last es || b) h ∙ or_true (has_last es)
done_of end.Ended es h = ap (λ b. b || has_sight es) h
