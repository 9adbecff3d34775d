use Rattle.std.proofs.Common.{◌≡◌, ℕ, zero, suc, ◌+◌, ◌-◌, ◌≤◌, ◌^◌, List, [], ◌∷◌, ◌++◌, length, take, drop, replicate, Bool, true, false, cond, refl, ap, sym, ◌∙◌, subst, arith}
use Rattle.std.proofs.lemmas.List.{append_assoc, append-nil, length-append, length-take, length-drop, length-replicate, take_at, drop_at, drop-drop}
use Rattle.std.proofs.lemmas.Bool.{le-ltb, not-false}
use Rattle.std.specs.Prelude.{Option, None, Some, Result, Ok, Err, leb, ltb, not}
use Rattle.wasi_fs.specs.Stores.{Told, write_of, write_unless, fault_of, is_too_low, taken, bytes_after}
use Rattle.wasi_fs.specs.declared.descriptor.File.{File}
use Rattle.wasi_fs_nodes.specs.Content.{resized, written}
use Rattle.wasi_fs_nodes.specs.Writes.{Limits, Write, Fault, Refusal, Nothing, Bytes, passed, bytes_unless, place_in, write_from}
use Rattle.wasi_fs_nodes.specs.declared.at.At.{At}
use Rattle.wasi_fs_nodes.specs.declared.at.At.TheVariants as at
use Rattle.wasi_fs_types.specs.declared.error_code.ErrorCode.{ErrorCode}
use Rattle.wasi_fs_types.specs.declared.error_code.ErrorCode.TheVariants as code
use Rattle.wasi_fs_streams.specs.Tasks.{task_turned, work_turned}
use Rattle.wasi_fs_streams.specs.WritePromises.{no_fault_told, WriteRun, WriteEvent, Poll, Turn, bytes_left, after_write_event, write_run, new_run, one_write, IsNotBelow, TookAll, StreamsWriteAll, WritePathsAgree, CancelsLeaveWrites, WritesEndOnce}
use Rattle.wasi_fs_streams.specs.WriteStreams.{Writing, next_place, unless_past, moved_to, write_here, taken_here, write_waits, consumed_by_task, write_polled, with_write_task, write_sent, write_closed}
use Rattle.wasi_fs_streams.specs.WriteStreams as streams
use Rattle.wasi_fs_streams.specs.declared.task.Task.{Task}
use Rattle.wasi_fs_streams.specs.declared.task.Task.TheVariants as task
use Rattle.wasi_fs_streams.specs.declared.write.WriteStreamConsumer.{WriteStreamConsumer}
use Rattle.wasi_fs_streams.specs.declared.write.WriteStreamConsumer.TheVariants.{Open, Ended}
use Rattle.wasi_producers.specs.Outputs.{consumed}
use Rattle.wasi_producers.specs.declared.results.Consumed.{Consumed}
use Rattle.wasi_producers.specs.declared.results.StreamResult.TheVariants.{Cancelled}

-- TWO WRITES IN A ROW ARE ONE
length_resized : (xs : List ℕ) (p : ℕ) → length (resized xs p) ≡ p
length_resized xs p = omega (arith, length-append (take p xs) (replicate {A = ℕ} (p - length xs) 0), length-take p xs, length-replicate {A = ℕ} (p - length xs) 0)

cut : (xs a d : List ℕ) (p n : ℕ) → length xs ≡ p → length a ≡ n → resized (xs ++ (a ++ d)) (p + n) ≡ xs ++ a
cut xs a d p n e f =
    let t : take (p + n) (xs ++ (a ++ d)) ≡ xs ++ a = ap (take (p + n)) (sym (append_assoc xs a d)) ∙ take_at (xs ++ a) d (p + n) (omega (arith, length-append xs a, e, f)) in
    let z : p + n - length (xs ++ (a ++ d)) ≡ 0 = omega (arith, length-append xs (a ++ d), length-append a d, e, f) in
    ap (λ y. y ++ replicate (p + n - length (xs ++ (a ++ d))) 0) t ∙ ap (λ k. (xs ++ a) ++ replicate k 0) z ∙ append-nil (xs ++ a)

past : (xs a d : List ℕ) (p n k : ℕ) → length xs ≡ p → length a ≡ n → drop (p + n + k) (xs ++ (a ++ d)) ≡ drop k d
past xs a d p n k e f =
    sym (drop-drop k (p + n) (xs ++ (a ++ d)))
    ∙ ap (drop k) (ap (drop (p + n)) (sym (append_assoc xs a d)) ∙ drop_at (xs ++ a) d (p + n) (omega (arith, length-append xs a, e, f)))

twice : (xs a b : List ℕ) (p : ℕ) → written (written xs p a) (p + length a) b ≡ written xs p (a ++ b)
twice xs a b p =
    let x : List ℕ = resized xs p in
    let d : List ℕ = drop (p + length a) xs in
    let e : length x ≡ p = length_resized xs p in
    let r : drop (p + length a + length b) (x ++ (a ++ d)) ≡ drop (p + length (a ++ b)) xs =
    past x a d p (length a) (length b) e refl ∙ drop-drop (length b) (p + length a) xs ∙ ap (λ n. drop n xs) (omega (arith, length-append a b)) in
    ap (λ y. y ++ (b ++ drop (p + length a + length b) (x ++ (a ++ d)))) (cut x a d p (length a) e refl)
    ∙ ap (λ y. (x ++ a) ++ (b ++ y)) r
    ∙ append_assoc x a (b ++ drop (p + length (a ++ b)) xs)
    ∙ ap (λ y. x ++ y) (sym (append_assoc a b (drop (p + length (a ++ b)) xs)))

-- a place at the end stays at the end
at_end : (xs a : List ℕ) → length (written xs (length xs) a) ≡ length xs + length a
at_end xs a = omega (arith, length-append (resized xs (length xs)) (a ++ drop (length xs + length a) xs), length_resized xs (length xs), length-append a (drop (length xs + length a) xs), length-drop (length xs + length a) xs)

-- the place after so many bytes
abbrev advanced : At → ℕ → At
advanced at.End count = at.End
advanced (at.Offset offset) count = at.Offset (offset + count)

place_advanced : (least : ℕ) (xs a : List ℕ) (to : At) → IsNotBelow least to
    → place_in least (length (written xs (place_in least (length xs) to) a)) (advanced to (length a)) ≡ place_in least (length xs) to + length a
place_advanced least xs a at.End low = at_end xs a
place_advanced least xs a (at.Offset offset) low = omega (arith, low)

advanced_none : (to : At) → advanced to 0 ≡ to
advanced_none at.End = refl
advanced_none (at.Offset offset) = ap at.Offset (omega arith)

advanced_low : (least : ℕ) (to : At) (n : ℕ) → IsNotBelow least to → IsNotBelow least (advanced to n)
advanced_low least at.End n low = tt
advanced_low least (at.Offset offset) n low = omega (arith, low)

two_writes : (least : ℕ) (xs a b : List ℕ) (to : At) → IsNotBelow least to → one_write least xs to (a ++ b) ≡ one_write least (one_write least xs to a) (advanced to (length a)) b
two_writes least xs [] b to low = ap (λ t. one_write least xs t b) (sym (advanced_none to))
two_writes least xs (x ∷ a) [] to low = ap (λ ys. written xs (place_in least (length xs) to) ys) (append-nil (x ∷ a))
two_writes least xs (x ∷ a) (y ∷ b) to low =
    sym (twice xs (x ∷ a) (y ∷ b) (place_in least (length xs) to))
    ∙ ap (λ p. written (written xs (place_in least (length xs) to) (x ∷ a)) p (y ∷ b)) (sym (place_advanced least xs (x ∷ a) to low))

-- ONE WRITE of a store with no fault planned, not below its least offset: it is refused, or it leaves what one write leaves
abbrev Wrote : ℕ → List ℕ → At → List ℕ → Result ℕ ErrorCode → List ℕ → Type 0
Wrote least bytes place piece (Ok count) now = (count ≡ length piece) × (now ≡ one_write least bytes place piece)
Wrote least bytes place piece (Err refusal) now = Unit {0}

not_too_low : (least : ℕ) (to : At) → IsNotBelow least to → is_too_low least to ≡ false
not_too_low least at.End low = refl
not_too_low least (at.Offset offset) low = le-ltb offset least low

within : (limits : Option Limits) (least : ℕ) (bytes : List ℕ) (place : At) (piece : List ℕ)
    → (let write = write_from limits bytes (place_in least (length bytes) place) piece in Wrote least bytes place piece (taken write (length piece)) (bytes_after bytes write))
within limits least bytes place [] = (refl, refl)
within limits least bytes place (b ∷ piece) =
    let p : ℕ = place_in least (length bytes) place in
    let more : List ℕ = b ∷ piece in
    elim (passed limits (length bytes) (p + length more)) as (λ o. let write = bytes_unless o (written bytes p more) in Wrote least bytes place more (taken write (length more)) (bytes_after bytes write)) [
      | None ↦ (refl, refl)
      | Some refusal ↦ tt
    ]

one_write_made : (limits : Option Limits) (least : ℕ) (bytes : List ℕ) (place : At) (piece : List ℕ) → IsNotBelow least place
    → (let write = write_of (no_fault_told least limits) bytes place piece in Wrote least bytes place piece (taken write (length piece)) (bytes_after bytes write))
one_write_made limits least bytes place piece low =
    let P : Bool → Type 0 = λ b. let write = write_unless (fault_of None b) (write_from limits bytes (place_in least (length bytes) place) piece) in Wrote least bytes place piece (taken write (length piece)) (bytes_after bytes write) in
    subst P (sym (not_too_low least place low)) (within limits least bytes place piece)

-- WHAT A RUN KEEPS: what the file will be once the rest is written
abbrev Ready : ℕ → List ℕ → List ℕ → List ℕ → At → Type 0
Ready least goal bytes rest place = IsNotBelow least place × (one_write least bytes place rest ≡ goal)

abbrev DoneReady : ℕ → List ℕ → List ℕ → List ℕ → At → Result ℕ ErrorCode → Type 0
DoneReady least goal bytes rest place (Ok count) = IsNotBelow least place × (one_write least bytes (advanced place count) (drop count rest) ≡ goal)
DoneReady least goal bytes rest place (Err refusal) = Unit {0}

abbrev TaskReady : ℕ → List ℕ → List ℕ → List ℕ → At → Option Writing → Type 0
TaskReady least goal bytes rest place None = Ready least goal bytes rest place
TaskReady least goal bytes rest place (Some (task.NotStarted piece)) = Ready least goal bytes rest place × (piece ≡ take 8192 rest)
TaskReady least goal bytes rest place (Some (task.Running piece)) = Ready least goal bytes rest place × (piece ≡ take 8192 rest)
TaskReady least goal bytes rest place (Some (task.Done outcome)) = DoneReady least goal bytes rest place outcome

-- no task stands on the blocking path
abbrev IsOnPath : File → Option Writing → Type 0
IsOnPath file task = file.blocking ≡ true → task ≡ None

no_task_stands : (one two : Writing) → ◌≡◌ {A = Option Writing} (Some one) None → ◌≡◌ {A = Option Writing} (Some two) None
no_task_stands one two e = absurd (cc)

by_tasks : (file : File) (task : Option Writing) → file.blocking ≡ false → IsOnPath file task
by_tasks file task e at_once = absurd (differ (sym e ∙ at_once))
  where
    differ : ◌≡◌ {A = Bool} false true → ⊥
    differ c = cc

abbrev Good : ℕ → List ℕ → List ℕ → List ℕ → WriteStreamConsumer → Type 0
Good least goal bytes rest (Open file place task) = IsOnPath file task × TaskReady least goal bytes rest place task
Good least goal bytes rest (Ended sent) = Unit {0}

abbrev GoodRun : ℕ → List ℕ → WriteRun → Type 0
GoodRun least goal run = Good least goal run.bytes run.rest run.stream

-- what comes of a write that was done
abbrev GoodAfter : ℕ → List ℕ → List ℕ → List ℕ → Consumed × WriteStreamConsumer → Type 0
GoodAfter least goal bytes rest c = Good least goal bytes (drop c.0.taken rest) c.1

moved_good : (least : ℕ) (goal bytes rest : List ℕ) (file : File) (place : At) (count : ℕ) → DoneReady least goal bytes rest place (Ok count)
    → GoodAfter least goal bytes rest (moved_to count file (next_place place count))
moved_good least goal bytes rest file at.End count ready = (λ at_once. refl, ready)
moved_good least goal bytes rest file (at.Offset offset) count ready =
    elim (leb (2 ^ 64) (offset + count)) as (λ past. GoodAfter least goal bytes rest (moved_to count file (unless_past past (offset + count)))) [
      | true ↦ tt
      | false ↦ (λ at_once. refl, (advanced_low least (at.Offset offset) count ready.0, ready.1))
    ]

written_good : (least : ℕ) (goal bytes rest : List ℕ) (file : File) (place : At) (outcome : Result ℕ ErrorCode) → DoneReady least goal bytes rest place outcome
    → GoodAfter least goal bytes rest (streams.written file place outcome)
written_good least goal bytes rest file place (Ok count) ready = moved_good least goal bytes rest file place count ready
written_good least goal bytes rest file place (Err refusal) ready = tt

whole : (n : ℕ) (xs : List ℕ) → take n xs ++ drop (length (take n xs)) xs ≡ xs
whole zero xs = refl
whole (suc n) [] = refl
whole (suc n) (x ∷ xs) = ap (λ ys. x ∷ ys) (whole n xs)

all_parts : (xs : List ℕ) → xs ++ drop (length xs) xs ≡ xs
all_parts [] = refl
all_parts (x ∷ xs) = ap (λ ys. x ∷ ys) (all_parts xs)

-- a write of a first part of the rest
first_written : (least : ℕ) (goal bytes rest : List ℕ) (place : At) (piece : List ℕ) (outcome : Result ℕ ErrorCode) (now : List ℕ) → Ready least goal bytes rest place
    → piece ++ drop (length piece) rest ≡ rest → Wrote least bytes place piece outcome now → DoneReady least goal now rest place outcome
first_written least goal bytes rest place piece (Ok count) now ready parts wrote =
    let first : one_write least now (advanced place count) (drop count rest) ≡ one_write least (one_write least bytes place piece) (advanced place (length piece)) (drop (length piece) rest) =
    ap (λ xs. one_write least xs (advanced place count) (drop count rest)) wrote.1 ∙ ap (λ n. one_write least (one_write least bytes place piece) (advanced place n) (drop n rest)) wrote.0 in
    (ready.0, first ∙ sym (two_writes least bytes piece (drop (length piece) rest) place ready.0) ∙ ap (one_write least bytes place) parts ∙ ready.1)
first_written least goal bytes rest place piece (Err refusal) now ready parts wrote = tt

-- A TURN keeps it
turn_good : (least : ℕ) (goal bytes rest : List ℕ) (file : File) (place : At) (t : Option Writing) (limits : Option Limits) → Good least goal bytes rest (Open file place t)
    → GoodRun least goal (after_write_event least (Turn limits) (record { bytes = bytes; rest = rest; stream = Open file place t }))
turn_good least goal bytes rest file place None limits g = g
turn_good least goal bytes rest file place (Some (task.NotStarted piece)) limits g = (λ at_once. no_task_stands (task.NotStarted piece) (task.Running piece) (g.0 at_once), g.1)
turn_good least goal bytes rest file place (Some (task.Done outcome)) limits g = g
turn_good least goal bytes rest file place (Some (task.Running piece)) limits g =
    let write : Write = write_of (no_fault_told least limits) bytes place piece in
    let parts : piece ++ drop (length piece) rest ≡ rest = let P : List ℕ → Type 0 = λ p. p ++ drop (length p) rest ≡ rest in subst P (sym g.1.1) (whole 8192 rest) in (
      λ at_once. no_task_stands (task.Running piece) (task.Done (taken write (length piece))) (g.0 at_once),
      first_written least goal bytes rest place piece (taken write (length piece)) (bytes_after bytes write) g.1.0 parts (one_write_made limits least bytes place piece g.1.0.0),
    )

-- A POLL keeps it
waits_good : (least : ℕ) (goal bytes rest : List ℕ) (file : File) (place : At) (finish : Bool) (piece : List ℕ) → file.blocking ≡ false → Ready least goal bytes rest place → piece ≡ take 8192 rest
    → GoodAfter least goal bytes rest (write_waits finish file place piece)
waits_good least goal bytes rest file place true piece e g is = (λ at_once. refl, g)
waits_good least goal bytes rest file place false piece e g is = (by_tasks file (Some (task.NotStarted piece)) e, (g, is))

task_good : (least : ℕ) (goal bytes rest : List ℕ) (file : File) (place : At) (finish : Bool) (t : Option Writing) → file.blocking ≡ false → TaskReady least goal bytes rest place t
    → GoodAfter least goal bytes rest (consumed_by_task rest finish file place t)
task_good least goal bytes rest file place finish None e g = waits_good least goal bytes rest file place finish (take 8192 rest) e g refl
task_good least goal bytes rest file place finish (Some (task.NotStarted piece)) e g = waits_good least goal bytes rest file place finish piece e g.0 g.1
task_good least goal bytes rest file place finish (Some (task.Running piece)) e g = (by_tasks file (Some (task.Running piece)) e, g)
task_good least goal bytes rest file place finish (Some (task.Done outcome)) e g = written_good least goal bytes rest file place outcome g

poll_good : (least : ℕ) (goal bytes rest : List ℕ) (file : File) (place : At) (t : Option Writing) (limits : Option Limits) (finish : Bool) → Good least goal bytes rest (Open file place t)
    → GoodRun least goal (after_write_event least (Poll limits finish) (record { bytes = bytes; rest = rest; stream = Open file place t }))
poll_good least goal bytes rest file place t limits finish g =
    let write : Write = write_of (no_fault_told least limits) bytes place rest in
    let polled : Bool → Consumed × WriteStreamConsumer = λ b. cond b (streams.written file place (taken write (length rest))) (consumed_by_task rest finish file place t) in
    let P : Bool → Type 0 = λ b. file.blocking ≡ b → Good least goal (bytes_left bytes (Open file place t) (cond b (Some write) None)) (drop (polled b).0.taken rest) (polled b).1 in
    let Q : Option Writing → Type 0 = λ t. TaskReady least goal bytes rest place t in
    elim file.blocking as P [
      | true ↦ λ e. (let ready : Ready least goal bytes rest place = subst Q (g.0 e) g.1 in
          written_good least goal (bytes_after bytes write) rest file place (taken write (length rest))
          (first_written least goal bytes rest place rest (taken write (length rest)) (bytes_after bytes write) ready (all_parts rest) (one_write_made limits least bytes place rest ready.0)))
      | false ↦ λ e. task_good least goal bytes rest file place finish t e g.1
    ] refl

event_good : (least : ℕ) (goal : List ℕ) (event : WriteEvent) (bytes rest : List ℕ) (stream : WriteStreamConsumer) → Good least goal bytes rest stream
    → GoodRun least goal (after_write_event least event (record { bytes = bytes; rest = rest; stream = stream }))
event_good least goal (Poll limits finish) bytes rest (Open file place t) g = poll_good least goal bytes rest file place t limits finish g
event_good least goal (Poll limits finish) bytes rest (Ended sent) g = tt
event_good least goal (Turn limits) bytes rest (Open file place t) g = turn_good least goal bytes rest file place t limits g
event_good least goal (Turn limits) bytes rest (Ended sent) g = tt

run_good : (least : ℕ) (goal : List ℕ) (events : List WriteEvent) (run : WriteRun) → GoodRun least goal run → GoodRun least goal (write_run least events run)
run_good least goal [] run g = g
run_good least goal (event ∷ events) run g = run_good least goal events (after_write_event least event run) (event_good least goal event run.bytes run.rest run.stream g)

pub write_all : StreamsWriteAll
write_all least bytes shown file place events low took =
    let goal : List ℕ = one_write least bytes place shown in
    let end : WriteRun = write_run least events (new_run bytes shown file place) in
    let good : GoodRun least goal end = run_good least goal events (new_run bytes shown file place) (λ at_once. refl, (low, refl)) in
    let P : WriteStreamConsumer → Type 0 = λ s. Good least goal end.bytes end.rest s in
    let g : Good least goal end.bytes end.rest (Open took.0 took.1 None) = subst P took.3 good in
    (ap (λ xs. one_write least end.bytes took.1 xs) (sym took.2) ∙ g.1.1, ap (λ s. write_sent (write_closed s)) took.3)

pub write_paths_agree : WritePathsAgree
write_paths_agree least bytes shown by_task at_once place events polls is_task is_blocking low took took_too =
    (write_all least bytes shown by_task place events low took).0 ∙ sym (write_all least bytes shown at_once place polls low took_too).0

-- what comes of a write is no cancel
never_cancelled : (file : File) (place : At) (outcome : Result ℕ ErrorCode) → (streams.written file place outcome).0.result ≡ Cancelled → ⊥
never_cancelled file at.End (Ok count) e = cc
never_cancelled file (at.Offset offset) (Ok count) e =
    let P : Bool → Type 0 = λ past. (moved_to count file (unless_past past (offset + count))).0.result ≡ Cancelled → ⊥ in
    (elim (leb (2 ^ 64) (offset + count)) as P [ true ↦ λ c. cc | false ↦ λ c. cc ]) e
never_cancelled file place (Err refusal) e = cc

waits_cancelled : (file : File) (place : At) (finish : Bool) (piece : List ℕ) → (write_waits finish file place piece).0.result ≡ Cancelled → write_waits finish file place piece ≡ (consumed Cancelled 0, Open file place None)
waits_cancelled file place true piece e = refl
waits_cancelled file place false piece e = absurd (cc)

task_cancelled : (file : File) (place : At) (finish : Bool) (piece : List ℕ) (t : Option Writing) → (consumed_by_task piece finish file place t).0.result ≡ Cancelled
    → consumed_by_task piece finish file place t ≡ (consumed Cancelled 0, Open file place None)
task_cancelled file place finish piece None e = waits_cancelled file place finish (take 8192 piece) e
task_cancelled file place finish piece (Some (task.NotStarted kept)) e = waits_cancelled file place finish kept e
task_cancelled file place finish piece (Some (task.Running kept)) e = absurd (cc)
task_cancelled file place finish piece (Some (task.Done outcome)) e = absurd (never_cancelled file place outcome e)

pub cancels_leave_writes : CancelsLeaveWrites
cancels_leave_writes told contents file place t piece finish =
    let write : Write = write_here told contents file place piece in
    let polled : Bool → Consumed × WriteStreamConsumer = λ b. cond b (streams.written file place (taken write (length piece))) (consumed_by_task piece finish file place t) in
    let P : Bool → Type 0 = λ b. (polled b).0.result ≡ Cancelled → (polled b ≡ (consumed Cancelled 0, Open file place None)) × (cond b (Some write) None ≡ None) in
    elim file.blocking as P [
      | true ↦ λ e. absurd (never_cancelled file place (taken write (length piece)) e)
      | false ↦ λ e. (task_cancelled file place finish piece t e, refl)
    ]

pub writes_end_once : WritesEndOnce
writes_end_once told contents piece finish sent = (refl, refl, refl, refl, refl)

-- a poll on the blocking path, by what its write answered
pub polled_at_once : (told : Told) (contents : ℕ → List ℕ) (piece : List ℕ) (finish : Bool) (s : WriteStreamConsumer) (file : File) (place : At) (t : Option Writing) (outcome : Result ℕ ErrorCode) (p : Consumed × WriteStreamConsumer)
    → s ≡ Open file place t → not file.blocking ≡ false → outcome ≡ taken_here told contents file place piece → p ≡ streams.written file place outcome → write_polled told contents piece finish s ≡ (p.0, p.1)
polled_at_once told contents piece finish s file place t outcome p is_open blocking took wrote =
    let P : WriteStreamConsumer → Type 0 = λ s. write_polled told contents piece finish s ≡ (p.0, p.1) in
    let Q : Bool → Type 0 = λ b. cond b (streams.written file place (taken_here told contents file place piece)) (consumed_by_task piece finish file place t) ≡ (p.0, p.1) in
    subst P (sym is_open) (subst Q (sym (not-false file.blocking blocking)) (ap (streams.written file place) (sym took) ∙ sym wrote))
