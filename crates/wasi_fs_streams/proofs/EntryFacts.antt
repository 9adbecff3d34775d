use Rattle.std.proofs.Common.{◌≡◌, ℕ, ◌<◌, ◌≤◌, List, [], ◌∷◌, ◌++◌, length, take, drop, map, refl, ap, sym, ◌∙◌, subst, arith, length-append}
use Rattle.std.proofs.lemmas.List.{append-nil, take_at, drop_at}
use Rattle.std.specs.Prelude.{Option, None, Some, Result, Ok, Err}
use Rattle.wasi_fs.specs.declared.entries.DirectoryEntry.{DirectoryEntry}
use Rattle.wasi_fs_streams.specs.Directories.{StreamsShowEntries, EntriesPolled, entries_next}
use Rattle.wasi_fs_types.specs.declared.error_code.ErrorCode.{ErrorCode}
use Rattle.wasi_producers.specs.Iterators.{ItemsCome, ItemsEnd, last_answer}
use Rattle.wasi_producers.specs.declared.iterator.FallibleIteratorProducer.{FallibleIteratorProducer}
use Rattle.wasi_producers.specs.declared.iterator.FallibleIteratorProducer.TheVariants.{Open, Ended}
use Rattle.wasi_producers.specs.declared.results.StreamResult.{StreamResult}
use Rattle.wasi_producers.specs.declared.results.StreamResult.TheVariants.{Completed, Dropped, Cancelled, Pending}

-- the entries among items that may be errors
abbrev values : List (Result DirectoryEntry ErrorCode) → List DirectoryEntry
values [] = []
values (Ok entry ∷ items) = entry ∷ values items
values (Err code ∷ items) = values items

all_values : (entries : List DirectoryEntry) → values (map (λ entry. Ok entry) entries) ≡ entries
all_values [] = refl
all_values (entry ∷ entries) = ap (λ es. entry ∷ es) (all_values entries)

-- what came and what is left are what there was
come : (items s t : List DirectoryEntry) → ItemsCome entries_next s items t → s ≡ items ++ t
come [] s t c = c
come (item ∷ items) s t c =
    let first : s ≡ item ∷ c.0 = sym (all_values s) ∙ ap values c.1 ∙ ap (λ es. item ∷ es) (all_values c.0) in
    first ∙ ap (λ es. item ∷ es) (come items c.0 t c.2)

no_error : (s u : List DirectoryEntry) (code : ErrorCode) → entries_next s (Some (Err code)) u → ⊥
no_error [] u code e = cc
no_error (entry ∷ s) u code e = cc

ended : (items s : List DirectoryEntry) (sent : Result (Unit {0}) ErrorCode) → ItemsEnd entries_next s items sent → (items ≡ s) × (sent ≡ Ok tt)
ended items s (Ok done) e =
    let none : e.0 ≡ [] = sym (all_values e.0) ∙ ap values e.3.0 in
    (sym (come items s e.0 e.1 ∙ ap (λ t. items ++ t) none ∙ append-nil items), refl)
ended items s (Err code) e = absurd (no_error e.0 e.2 code e.3)

pub show_entries : StreamsShowEntries
show_entries entries most Completed items (Open t) p =
    let all : entries ≡ items ++ t = come items entries t p.0 in (
      omega (arith, ap length all, length-append items t, p.1),
      sym (take_at items t most p.1) ∙ ap (take most) (sym all),
      ap Open (sym (drop_at items t most p.1) ∙ ap (drop most) (sym all)),
    )
show_entries entries most Completed items (Ended sent) p = absurd p
show_entries entries most Dropped items (Open t) p = absurd p
show_entries entries most Dropped items (Ended sent) p =
    let e = ended items entries sent p.0 in
    (subst (λ es. length es < most) e.0 p.1, e.0, ap Ended e.1)
show_entries entries most Cancelled items after p = absurd p
show_entries entries most Pending items after p = absurd p

-- what `next` of a listing answers
pub next_is_first : (s t : List DirectoryEntry) (r : Option (Result DirectoryEntry ErrorCode)) (entry : DirectoryEntry) → entries_next s r t → r ≡ Some (Ok entry) → s ≡ entry ∷ t
next_is_first s t r entry c is =
    let P : Option (Result DirectoryEntry ErrorCode) → Type 0 = λ r. entries_next s r t in
    sym (all_values s) ∙ ap values (subst P is c) ∙ ap (λ es. entry ∷ es) (all_values t)

pub next_is_no_error : (s t : List DirectoryEntry) (r : Option (Result DirectoryEntry ErrorCode)) (code : ErrorCode) → entries_next s r t → r ≡ Some (Err code) → ⊥
next_is_no_error s t r code c is = let P : Option (Result DirectoryEntry ErrorCode) → Type 0 = λ r. entries_next s r t in no_error s t code (subst P is c)

pub next_is_none : (s t : List DirectoryEntry) (r : Option (Result DirectoryEntry ErrorCode)) → entries_next s r t → r ≡ None → s ≡ []
next_is_none s t r c is =
    let P : Option (Result DirectoryEntry ErrorCode) → Type 0 = λ r. entries_next s r t in
    let none : entries_next s None t = subst P is c in
    sym (all_values s) ∙ ap values none.0
