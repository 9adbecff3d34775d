use Rattle.std.proofs.Common.{◌≡◌, ℕ, zero, suc, ◌+◌, ◌-◌, ◌≤◌, ◌<◌, ◌^◌, List, [], ◌∷◌, ◌++◌, length, take, drop, Bool, true, false, refl, ap, sym, ◌∙◌, subst, arith, append_assoc}
use Rattle.std.proofs.lemmas.List.{drop-drop}
use Rattle.std.proofs.lemmas.Bool.{le-ltb}
use Rattle.std.specs.Prelude.{Option, None, Some, Result, Ok, Err, leb, ltb, cond, ◌≢◌}
use Rattle.wasi_fs.specs.Stores.{Told, given, given_unless, fault_of}
use Rattle.wasi_fs.specs.declared.descriptor.File.{File}
use Rattle.wasi_fs_types.specs.declared.error_code.ErrorCode.{ErrorCode}
use Rattle.wasi_fs_types.specs.declared.error_code.ErrorCode.TheVariants as code
use Rattle.wasi_fs_streams.specs.Promises.{ReadEvent, Poll, Turn, polled_over, read_at_end, all_read, bytes_from, ShowsFile, StreamsShowFiles, EndedWell, SameReads, ReadPathsAgree, CancelsLeaveReads, ReadsEndOnce}
use Rattle.wasi_fs_streams.specs.Reads.{Reading, read_size, read_by, handed_out, moved, polled_at_once, polled_by_task, read_waits, task_read, with_read_task, read_sent}
use Rattle.wasi_fs_streams.specs.declared.read.ReadStreamProducer.{ReadStreamProducer}
use Rattle.wasi_fs_streams.specs.declared.read.ReadStreamProducer.TheVariants.{Open, Ended}
use Rattle.wasi_fs_streams.specs.declared.task.Task.{Task}
use Rattle.wasi_fs_streams.specs.declared.task.Task.TheVariants as task
use Rattle.wasi_fs_streams.specs.Tasks.{task_turned}
use Rattle.wasi_producers.specs.Inputs.{produced}
use Rattle.wasi_producers.specs.declared.results.Produced.{Produced}
use Rattle.wasi_producers.specs.declared.results.StreamResult.TheVariants.{Cancelled}

-- a stream that ended stays as it is and hands out nothing
stays : (told : Told) (contents : ℕ → List ℕ) (events : List ReadEvent) (sent : Result (Unit {0}) ErrorCode) → (read_at_end told contents events (Ended sent) ≡ Ended sent) × (all_read told contents events (Ended sent) ≡ [])
stays told contents [] sent = (refl, refl)
stays told contents (Poll room finish ∷ events) sent = stays told contents events sent
stays told contents (Turn ∷ events) sent = stays told contents events sent

whole : (n : ℕ) (xs : List ℕ) → take n xs ++ drop (length (take n xs)) xs ≡ xs
whole zero xs = refl
whole (suc n) [] = refl
whole (suc n) (x ∷ xs) = ap (λ ys. x ∷ ys) (whole n xs)

-- with no fault planned, and from the least offset on, a read gives its bytes
no_fault : (told : Told) (bytes : List ℕ) (offset room : ℕ) → told.planned ≡ None → told.least ≤ offset → given told bytes offset room ≡ Ok (take room (drop (offset - told.least) bytes))
no_fault told bytes offset room planned low =
    ap (λ p. given_unless (fault_of p (ltb offset told.least)) bytes (offset - told.least) room) planned
    ∙ ap (λ b. given_unless (fault_of None b) bytes (offset - told.least) room) (le-ltb offset told.least low)

-- bytes that went out before join what is handed out after them
joined : (told : Told) (contents : ℕ → List ℕ) (file : File) (offset : ℕ) (chunk : List ℕ) (next : ℕ) (s : ReadStreamProducer) (out : List ℕ)
    → chunk ++ bytes_from told contents file next ≡ bytes_from told contents file offset → ShowsFile told contents file next s out → ShowsFile told contents file offset s (chunk ++ out)
joined told contents file offset chunk next (Open now place task) out e shows = (shows.0, append_assoc chunk out (bytes_from told contents file place) ∙ ap (λ ys. chunk ++ ys) shows.1 ∙ e)
joined told contents file offset chunk next (Ended (Ok done)) out e shows = ap (λ ys. chunk ++ ys) shows ∙ e
joined told contents file offset chunk next (Ended (Err refusal)) out e shows = shows

-- what is left after a read, and what the read gave before it
split : (told : Told) (contents : ℕ → List ℕ) (file : File) (offset n : ℕ) → told.least ≤ offset
    → (let chunk = take n (bytes_from told contents file offset) in chunk ++ bytes_from told contents file (offset + length chunk) ≡ bytes_from told contents file offset)
split told contents file offset n low =
    let bytes : List ℕ = contents file.node in
    let xs : List ℕ = drop (offset - told.least) bytes in
    let chunk : List ℕ = take n xs in
    let place : offset + length chunk - told.least ≡ offset - told.least + length chunk = omega (arith, low) in
    ap (λ k. chunk ++ drop k bytes) place
    ∙ ap (λ ys. chunk ++ ys) (sym (drop-drop (length chunk) (offset - told.least) bytes))
    ∙ whole n xs

take_none : (n : ℕ) (xs : List ℕ) → take (suc n) xs ≡ [] → xs ≡ []
take_none n [] e = refl
take_none n (x ∷ xs) e = absurd (no_cons x (take n xs) e)
  where
    no_cons : (x : ℕ) (xs : List ℕ) → x ∷ xs ≡ [] → ⊥
    no_cons x xs e = cc

-- what holds after a read whose bytes go out, where it holds of each run from a later place
abbrev Later : Told → (ℕ → List ℕ) → File → ℕ → List ReadEvent → Type 0
Later told contents file offset events = (next : ℕ) → offset ≤ next → ShowsFile told contents file next (read_at_end told contents events (Open file next None)) (all_read told contents events (Open file next None))

-- what is to hold after a poll
abbrev Shows : Told → (ℕ → List ℕ) → File → ℕ → List ReadEvent → Produced × ReadStreamProducer → Type 0
Shows told contents file offset events p = ShowsFile told contents file offset (read_at_end told contents events p.1) (p.0.bytes ++ all_read told contents events p.1)

goes_on : (told : Told) (contents : ℕ → List ℕ) (file : File) (offset : ℕ) (events : List ReadEvent) (chunk : List ℕ) → Later told contents file offset events
    → chunk ++ bytes_from told contents file (offset + length chunk) ≡ bytes_from told contents file offset
    → (chunk ≡ [] → bytes_from told contents file offset ≡ [])
    → Shows told contents file offset events (handed_out file offset (Ok chunk))
goes_on told contents file offset events [] later parts none =
    let k = stays told contents events (Ok tt) in
    let P : ReadStreamProducer → Type 0 = λ s. ShowsFile told contents file offset s (all_read told contents events (Ended (Ok tt))) in
    subst P (sym k.0) (k.1 ∙ sym (none refl))
goes_on told contents file offset events (b ∷ bytes) later parts none =
    let chunk : List ℕ = b ∷ bytes in
    elim (leb (2 ^ 64) (offset + length chunk)) as (λ past. Shows told contents file offset events (moved past file offset chunk)) [
      | true ↦ (let P : ReadStreamProducer → Type 0 = λ s. ShowsFile told contents file offset s (chunk ++ all_read told contents events (Ended (Err code.Overflow))) in
          subst P (sym (stays told contents events (Err code.Overflow)).0) refl)
      | false ↦ joined told contents file offset chunk (offset + length chunk) (read_at_end told contents events (Open file (offset + length chunk) None)) (all_read told contents events (Open file (offset + length chunk) None)) parts (later (offset + length chunk) (omega arith))
    ]

-- the bytes of a read go out
read_goes_on : (told : Told) (contents : ℕ → List ℕ) (file : File) (offset n : ℕ) (events : List ReadEvent) (outcome : Result (List ℕ) ErrorCode) → told.least ≤ offset → Later told contents file offset events
    → outcome ≡ Ok (take (suc n) (bytes_from told contents file offset)) → Shows told contents file offset events (handed_out file offset outcome)
read_goes_on told contents file offset n events outcome low later is =
    let P : Result (List ℕ) ErrorCode → Type 0 = λ o. Shows told contents file offset events (handed_out file offset o) in
    subst P (sym is) (goes_on told contents file offset events (take (suc n) (bytes_from told contents file offset)) later (split told contents file offset (suc n) low) (take_none n (bytes_from told contents file offset)))

-- what a task that is done has read
abbrev TaskIs : Told → (ℕ → List ℕ) → File → ℕ → Option Reading → Type 0
TaskIs told contents file offset None = Unit {0}
TaskIs told contents file offset (Some (task.NotStarted work)) = Unit {0}
TaskIs told contents file offset (Some (task.Running work)) = Unit {0}
TaskIs told contents file offset (Some (task.Done outcome)) = outcome ≡ Ok (take 8192 (bytes_from told contents file offset))

shows : (told : Told) (contents : ℕ → List ℕ) (file : File) (events : List ReadEvent) (offset : ℕ) (t : Option Reading) → told.planned ≡ None → told.least ≤ offset → TaskIs told contents file offset t
    → ShowsFile told contents file offset (read_at_end told contents events (Open file offset t)) (all_read told contents events (Open file offset t))
shows told contents file [] offset t planned low is = (refl, refl)
shows told contents file (Turn ∷ events) offset t planned low is =
    let P : Option Reading → Type 0 = λ t. TaskIs told contents file offset t → (let s = (with_read_task file offset (task_turned (task_read told contents file offset) t)).1 in ShowsFile told contents file offset (read_at_end told contents events s) (all_read told contents events s)) in
    elim t as P [
      | None ↦ λ i. shows told contents file events offset None planned low tt
      | Some one ↦ elim one as (λ one. P (Some one)) [
        | task.NotStarted work ↦ λ i. shows told contents file events offset (Some (task.Running work)) planned low tt
        | task.Running work ↦ λ i. shows told contents file events offset (Some (task.Done (task_read told contents file offset work))) planned low (no_fault told (contents file.node) offset 8192 planned low)
        | task.Done outcome ↦ λ i. shows told contents file events offset (Some (task.Done outcome)) planned low i
      ]
    ] is
shows told contents file (Poll room finish ∷ events) offset t planned low is =
    let later : Later told contents file offset events = λ next far. shows told contents file events next None planned (omega (arith, low, far)) tt in
    let after : Produced × ReadStreamProducer → Type 0 = Shows told contents file offset events in
    let waits : after (read_waits finish file offset) = elim finish as (λ f. after (read_waits f file offset)) [
      | true ↦ later offset (omega arith)
      | false ↦ shows told contents file events offset (Some (task.NotStarted tt)) planned low tt
    ] in
    let P : Option Reading → Type 0 = λ t. TaskIs told contents file offset t → after (polled_by_task finish file offset t) in
    elim file.blocking as (λ b. after (cond b (polled_at_once (cond b (read_by told (contents file.node) offset (read_size room)) None) file offset t) (polled_by_task finish file offset t))) [
      | true ↦ elim (read_size room) as (λ size. after (polled_at_once (read_by told (contents file.node) offset size) file offset t)) [
        | zero ↦ shows told contents file events offset t planned low is
        | suc n ↦ read_goes_on told contents file offset n events (given told (contents file.node) offset (suc n)) low later (no_fault told (contents file.node) offset (suc n) planned low)
      ]
      | false ↦ elim t as P [
        | None ↦ λ i. waits
        | Some one ↦ elim one as (λ one. P (Some one)) [
          | task.NotStarted work ↦ λ i. waits
          | task.Running work ↦ λ i. shows told contents file events offset (Some (task.Running work)) planned low tt
          | task.Done outcome ↦ λ i. read_goes_on told contents file offset 8191 events outcome low later i
        ]
      ] is
    ]

pub show_files : StreamsShowFiles
show_files told contents file events offset planned low = shows told contents file events offset None planned low tt

-- a stream that ended without an overflow sent Ok, and handed out the file
ends_well : (told : Told) (contents : ℕ → List ℕ) (file : File) (offset : ℕ) (s : ReadStreamProducer) (out : List ℕ) (sent : Result (Unit {0}) ErrorCode)
    → ShowsFile told contents file offset s out → read_sent s ≡ Some sent → sent ≢ Err code.Overflow → (read_sent s ≡ Some (Ok tt)) × (out ≡ bytes_from told contents file offset)
ends_well told contents file offset (Open now place task) out sent shows ended well = absurd (cc)
ends_well told contents file offset (Ended (Ok done)) out sent shows ended well = (refl, shows)
ends_well told contents file offset (Ended (Err refusal)) out sent shows ended well =
    let overflow : sent ≡ Err code.Overflow = cc in absurd (well overflow)

pub read_paths_agree : ReadPathsAgree
read_paths_agree told contents by_task at_once offset events polls is_task is_blocking node planned low ended polled =
    let a = ends_well told contents by_task offset (read_at_end told contents events (Open by_task offset None)) (all_read told contents events (Open by_task offset None)) ended.0
    (show_files told contents by_task events offset planned low) ended.1 ended.2 in
    let b = ends_well told contents at_once offset (read_at_end told contents polls (Open at_once offset None)) (all_read told contents polls (Open at_once offset None)) polled.0
    (show_files told contents at_once polls offset planned low) polled.1 polled.2 in
    record {
      sent_by_task = a.0;
      sent_at_once = b.0;
      same = a.1 ∙ ap (λ n. drop (offset - told.least) (contents n)) node ∙ sym b.1;
      whole = a.1;
    }

-- what goes out is no cancel
abbrev IsCancelled : ReadStreamProducer → Produced × ReadStreamProducer → Type 0
IsCancelled s p = p.0.result ≡ Cancelled → p ≡ (produced Cancelled [], s)

never_cancelled : (file : File) (offset : ℕ) (outcome : Result (List ℕ) ErrorCode) (s : ReadStreamProducer) → IsCancelled s (handed_out file offset outcome)
never_cancelled file offset (Ok []) s e = absurd (cc)
never_cancelled file offset (Ok (b ∷ bytes)) s e =
    let P : Bool → Type 0 = λ past. IsCancelled s (moved past file offset (b ∷ bytes)) in
    (elim (leb (2 ^ 64) (offset + length (b ∷ bytes))) as P [ true ↦ λ c. absurd (cc) | false ↦ λ c. absurd (cc) ]) e
never_cancelled file offset (Err refusal) s e = absurd (cc)

pub cancels_leave : CancelsLeaveReads
cancels_leave told contents file offset t room finish =
    let s : ReadStreamProducer = Open file offset None in
    let waits : IsCancelled s (read_waits finish file offset) = elim finish as (λ f. IsCancelled s (read_waits f file offset)) [ true ↦ λ e. refl | false ↦ λ e. absurd (cc) ] in
    elim file.blocking as (λ b. IsCancelled s (cond b (polled_at_once (cond b (read_by told (contents file.node) offset (read_size room)) None) file offset t) (polled_by_task finish file offset t))) [
      | true ↦ elim (read_size room) as (λ size. IsCancelled s (polled_at_once (read_by told (contents file.node) offset size) file offset t)) [
        | zero ↦ λ e. absurd (cc)
        | suc n ↦ never_cancelled file offset (given told (contents file.node) offset (suc n)) s
      ]
      | false ↦ elim t as (λ t. IsCancelled s (polled_by_task finish file offset t)) [
        | None ↦ waits
        | Some one ↦ elim one as (λ one. IsCancelled s (polled_by_task finish file offset (Some one))) [
          | task.NotStarted work ↦ waits
          | task.Running work ↦ λ e. absurd (cc)
          | task.Done outcome ↦ never_cancelled file offset outcome s
        ]
      ]
    ]

pub reads_end_once : ReadsEndOnce
reads_end_once told contents room finish sent = (refl, refl, refl)
