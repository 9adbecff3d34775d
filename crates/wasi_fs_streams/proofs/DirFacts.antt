use Rattle.std.proofs.Common.{◌≡◌, ℕ, zero, suc, List, [], ◌∷◌, ◌++◌, take, drop, Bool, true, false, refl, ap, sym, ◌∙◌, subst, append_assoc}
use Rattle.std.proofs.lemmas.List.{append-nil, take-append-drop}
use Rattle.std.specs.Prelude.{Option, None, Some, Result, Ok, Err}
use Rattle.wasi_base.specs.declared.io_kind.IoKind.{IoKind}
use Rattle.wasi_fs.specs.Listing.{listed_unless}
use Rattle.wasi_fs.specs.Trees.{TreeState}
use Rattle.wasi_fs.specs.declared.descriptor.Dir.{Dir}
use Rattle.wasi_fs.specs.declared.entries.DirectoryEntry.{DirectoryEntry}
use Rattle.wasi_fs_types.specs.declared.error_code.ErrorCode.{ErrorCode}
use Rattle.wasi_fs_streams.specs.Directories.{EntriesPolled, directory_streamed}
use Rattle.wasi_fs_streams.specs.DirStreams.{begun, dir_polled, polled_with_room, polled_no_room, dir_sent}
use Rattle.wasi_fs_streams.specs.DirPromises.{entries_in, DirEvent, Poll, Turn, after_dir_event, entry_list, entries_out, dir_at_end, all_entries, ArePolled, DirPathsAgree, CancelsKeepDirs, DirsEndOnce}
use Rattle.wasi_fs_streams.specs.declared.dir_stream.ReadDirStream.{ReadDirStream}
use Rattle.wasi_fs_streams.specs.declared.dir_stream.ReadDirStream.TheVariants.{NotStarted, Running, Done, Ended}
use Rattle.wasi_fs_streams.proofs.EntryFacts.{show_entries}
use Rattle.wasi_producers.specs.declared.iterator.FallibleIteratorProducer.{FallibleIteratorProducer}
use Rattle.wasi_producers.specs.declared.iterator.FallibleIteratorProducer.TheVariants as producer
use Rattle.wasi_producers.specs.declared.results.StreamResult.{StreamResult}
use Rattle.wasi_producers.specs.declared.results.StreamResult.TheVariants.{Completed, Dropped, Cancelled, Pending}

-- what a stream has still to hand out
abbrev to_come : TreeState → ReadDirStream → List DirectoryEntry
to_come tree (NotStarted dir) = entries_in tree dir
to_come tree (Running left given) = entry_list given ++ left
to_come tree (Done outcome) = []
to_come tree (Ended sent) = []

-- no error is sent
abbrev IsWell : ReadDirStream → Type 0
IsWell (NotStarted dir) = Unit {0}
IsWell (Running left given) = Unit {0}
IsWell (Done outcome) = outcome ≡ Ok tt
IsWell (Ended sent) = sent ≡ Ok tt

-- what one thing that happens hands out is what is no more to come
abbrev Steps : TreeState → ReadDirStream → List DirectoryEntry → ReadDirStream → Type 0
Steps tree s out after = IsWell after × (out ++ to_come tree after ≡ to_come tree s)

abbrev Polls : TreeState → ReadDirStream → (StreamResult × Option DirectoryEntry) × ReadDirStream → Type 0
Polls tree s p = Steps tree s (entry_list p.0.1) p.1

with_room : (tree : TreeState) (finish : Bool) (s : ReadDirStream) → IsWell s → Polls tree s (polled_with_room finish s)
with_room tree true (NotStarted dir) w = (tt, refl)
with_room tree false (NotStarted dir) w = (tt, refl)
with_room tree true (Running left None) w = (tt, refl)
with_room tree false (Running left None) w = (tt, refl)
with_room tree finish (Running left (Some entry)) w = (tt, refl)
with_room tree finish (Done outcome) w = (w, refl)
with_room tree finish (Ended sent) w = (w, refl)

no_room : (tree : TreeState) (s : ReadDirStream) → IsWell s → Polls tree s (polled_no_room s)
no_room tree (NotStarted dir) w = (tt, refl)
no_room tree (Running left given) w = (tt, refl)
no_room tree (Done outcome) w = (w, refl)
no_room tree (Ended sent) w = (w, refl)

step : (tree : TreeState) (event : DirEvent) (s : ReadDirStream) → tree.planned ≡ None → IsWell s → Steps tree s (entries_out event s) (after_dir_event tree event s)
step tree (Poll None finish) s planned w = with_room tree finish s w
step tree (Poll (Some zero) finish) s planned w = no_room tree s w
step tree (Poll (Some (suc n)) finish) s planned w = with_room tree finish s w
step tree Turn (NotStarted dir) planned w =
    let P : Option IoKind → Type 0 = λ o. Steps tree (NotStarted dir) [] (begun (listed_unless o tree dir).0).1 in
    subst P (sym planned) (tt, refl)
step tree Turn (Running left (Some entry)) planned w = (tt, refl)
step tree Turn (Running [] None) planned w = (refl, refl)
step tree Turn (Running (entry ∷ left) None) planned w = (tt, refl)
step tree Turn (Done outcome) planned w = (w, refl)
step tree Turn (Ended sent) planned w = (w, refl)

run : (tree : TreeState) (events : List DirEvent) (s : ReadDirStream) → tree.planned ≡ None → IsWell s → Steps tree s (all_entries tree events s) (dir_at_end tree events s)
run tree [] s planned w = (w, refl)
run tree (event ∷ events) s planned w =
    let one = step tree event s planned w in
    let more = run tree events (after_dir_event tree event s) planned one.0 in (
      more.0,
      append_assoc (entries_out event s) (all_entries tree events (after_dir_event tree event s)) (to_come tree (dir_at_end tree events (after_dir_event tree event s)))
          ∙ ap (λ out. entries_out event s ++ out) more.1 ∙ one.1,
    )

-- a stream that ended sent Ok, and nothing is to come
all_gone : (tree : TreeState) (s : ReadDirStream) (sent : Result (Unit {0}) ErrorCode) → IsWell s → dir_sent s ≡ Some sent → (sent ≡ Ok tt) × (to_come tree s ≡ [])
all_gone tree (NotStarted dir) sent w e = absurd (cc)
all_gone tree (Running left given) sent w e = absurd (cc)
all_gone tree (Done outcome) sent w e = absurd (cc)
all_gone tree (Ended was) sent w e = let same : sent ≡ Ok tt = cc in (same, refl)

-- ON THE BLOCKING PATH
stays : (mosts : List ℕ) (sent after : Result (Unit {0}) ErrorCode) (out : List DirectoryEntry) → ArePolled mosts (producer.Ended sent) out (producer.Ended after) → (after ≡ sent) × (out ≡ [])
stays [] sent after out p = let same : after ≡ sent = cc (p.1) in (same, p.0)
stays (most ∷ mosts) sent after out p =
    let P : FallibleIteratorProducer (List DirectoryEntry) ErrorCode → Type 0 = λ b. ArePolled mosts b p.3 (producer.Ended after) in
    let more = stays mosts sent after p.3 (subst P p.4.2 p.5) in
    (more.0, p.6 ∙ ap (λ items. items ++ p.3) p.4.1 ∙ more.1)

all_polled : (mosts : List ℕ) (entries : List DirectoryEntry) (sent : Result (Unit {0}) ErrorCode) (out : List DirectoryEntry) → ArePolled mosts (producer.Open entries) out (producer.Ended sent)
    → (sent ≡ Ok tt) × (out ≡ entries)
all_polled [] entries sent out p = absurd (open_is_not_ended p.1)
  where
    open_is_not_ended : ◌≡◌ {A = FallibleIteratorProducer (List DirectoryEntry) ErrorCode} (producer.Open entries) (producer.Ended sent) → ⊥
    open_is_not_ended e = cc
all_polled (most ∷ mosts) entries sent out p =
    let P : FallibleIteratorProducer (List DirectoryEntry) ErrorCode → Type 0 = λ b. ArePolled mosts b p.3 (producer.Ended sent) in
    let Q : StreamResult → Type 0 = λ r. EntriesPolled entries most r p.1 p.2 → (sent ≡ Ok tt) × (out ≡ entries) in
    elim p.0 as Q [
      | Completed ↦ λ e. (let more = all_polled mosts (drop most entries) sent p.3 (subst P e.2 p.5) in
          (more.0, p.6 ∙ ap (λ items. items ++ p.3) e.1 ∙ ap (λ rest. take most entries ++ rest) more.1 ∙ take-append-drop most entries))
      | Dropped ↦ λ e. (let more = stays mosts (Ok tt) sent p.3 (subst P e.2 p.5) in
          (more.0, p.6 ∙ ap (λ items. items ++ p.3) e.1 ∙ ap (λ rest. entries ++ rest) more.1 ∙ append-nil entries))
      | Cancelled ↦ λ e. absurd e
      | Pending ↦ λ e. absurd e
    ] (show_entries entries most p.0 p.1 p.2 p.4)

pub dir_paths_agree : DirPathsAgree
dir_paths_agree tree dir events mosts sent sent_at_once out planned ended polled =
    let whole = run tree events (NotStarted dir) planned tt in
    let gone = all_gone tree (dir_at_end tree events (NotStarted dir)) sent whole.0 ended in
    let P : Option IoKind → Type 0 = λ o. ArePolled mosts (directory_streamed (listed_unless o tree dir).0) out (producer.Ended sent_at_once) in
    let at_once = all_polled mosts (entries_in tree dir) sent_at_once out (subst P planned polled) in (
      gone.0,
      at_once.0,
      sym (append-nil (all_entries tree events (NotStarted dir))) ∙ ap (λ rest. all_entries tree events (NotStarted dir) ++ rest) (sym gone.1) ∙ whole.1,
      at_once.1,
    )

with_room_cancelled : (finish : Bool) (s : ReadDirStream) → (polled_with_room finish s).0.0 ≡ Cancelled → polled_with_room finish s ≡ ((Cancelled, None), s)
with_room_cancelled true (NotStarted dir) e = refl
with_room_cancelled false (NotStarted dir) e = absurd (cc)
with_room_cancelled true (Running left None) e = refl
with_room_cancelled false (Running left None) e = absurd (cc)
with_room_cancelled finish (Running left (Some entry)) e = absurd (cc)
with_room_cancelled finish (Done outcome) e = absurd (cc)
with_room_cancelled finish (Ended sent) e = absurd (cc)

no_room_cancelled : (s : ReadDirStream) → (polled_no_room s).0.0 ≡ Cancelled → polled_no_room s ≡ ((Cancelled, None), s)
no_room_cancelled (NotStarted dir) e = absurd (cc)
no_room_cancelled (Running left given) e = absurd (cc)
no_room_cancelled (Done outcome) e = absurd (cc)
no_room_cancelled (Ended sent) e = absurd (cc)

pub cancels_keep_dirs : CancelsKeepDirs
cancels_keep_dirs None finish s e = with_room_cancelled finish s e
cancels_keep_dirs (Some zero) finish s e = no_room_cancelled s e
cancels_keep_dirs (Some (suc n)) finish s e = with_room_cancelled finish s e

pub dirs_end_once : DirsEndOnce
dirs_end_once tree None finish sent = (refl, refl, refl)
dirs_end_once tree (Some zero) finish sent = (refl, refl, refl)
dirs_end_once tree (Some (suc n)) finish sent = (refl, refl, refl)
