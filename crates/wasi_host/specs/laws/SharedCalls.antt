-- A call on an entry of the shared input follows its rule: one lemma a row of that input's table.
use Rattle.std.proofs.Common.{◌≡◌, ℕ, zero, suc, Bool, true, false, cond, not, List, [], ◌++◌, length, take, drop, append-nil, arith, Option, Some, None, refl, ap, ◌∙◌, sym, subst, true≢false}
use Rattle.std.specs.Prelude.{nat_eq, nat_lt, is_some}
use Rattle.std.proofs.Common.{inl, inr}
use Rattle.std.proofs.lemmas.Grind.{common_steps}
use Rattle.wasi_base.specs.declared.io_kind.IoKind.{IoKind}
use Rattle.wasi_base.specs.declared.io_kind.IoKind.TheVariants.{BrokenPipe}
use Rattle.std.specs.Ordering.{nat_cmp}
use Rattle.std.specs.FinSet.{FinSet}
use Rattle.wasi_base.specs.declared.trap_text.TrapText.TheVariants.{ResourceNotPresent, ResourceWrongType, ResourceHasChildren, ResourceTableFull}
use Rattle.wasi_base.specs.Source.{Told}
use Rattle.wasi_table.specs.Table.{Held as Row, held_at, entry_in, parent_in, live_count, next_number, with_pushed, without, has_children}
use Rattle.wasi_table.specs.laws.Kept.{held-next_number}
use Rattle.wasi_table.specs.laws.Children.{Child, child_of, has_child}
use Rattle.wasi_stdin.specs.declared.mode.Mode.{Mode}
use Rattle.wasi_stdin.specs.declared.mode.Mode.TheVariants.{Idle, Asked, Held, Failed, Closed}
use Rattle.wasi_stdin.specs.Shared as stdin
use Rattle.wasi_stdin.specs.Shared.{Shared, Met, NothingYet, Handed, AtEnd, Reading, Polling, reading, told_fault, met_in, IsSound, HoldsIn, CapturedIn, meeting_of, after_meeting, reading_of, after_read, skipped, polling, wait_of, is_waiting, ready_in, is_ready, asked_by_ready, after_ready, block_of, after_block, wait_after_block, wait_after_poll, poll_of, after_poll}
use Rattle.wasi_script.specs.declared.lines.EntryCall.{EntryCall}
use Rattle.wasi_script.specs.declared.lines.EntryCall.TheVariants as call
use Rattle.wasi_script.specs.declared.lines.Access.{Access}
use Rattle.wasi_script.specs.declared.lines.Access.TheVariants as access
use Rattle.wasi_reply.specs.declared.reply.Told.{Told as Answer}
use Rattle.wasi_reply.specs.declared.reply.Told.TheVariants as tell
use Rattle.wasi_reply.specs.declared.reply.Reply.{Reply}
use Rattle.wasi_reply.specs.declared.reply.Reply.TheVariants as reply
use Rattle.wasi_host.specs.declared.entry.Entry.{Entry}
use Rattle.wasi_host.specs.declared.entry.Entry.TheVariants as entry
use Rattle.wasi_host.specs.declared.entry.SharedEntry.{SharedEntry}
use Rattle.wasi_host.specs.declared.entry.SharedEntry.TheVariants as on
use Rattle.wasi_host.specs.declared.entry.StreamEntry.TheVariants as stream
use Rattle.wasi_host.specs.declared.deed.Deed.TheVariants.{Make, Change}
use Rattle.wasi_host.specs.Deeds.{Own, Done, trapped, entry_at, made, with_kept, goes_under, may_make, may_change, act, dropped_at}
use Rattle.wasi_host.specs.Calls.{Doing, doing, asked, shared_entry, reading_told, skipped_told, polling_told}
use Rattle.wasi_host.specs.Host.{Guest}
use Rattle.wasi_host.specs.Run.{Standing, Sharing, at_number, with_standing, without_standing, after_row, ReadRule, counted, is_over, PollRule, ready_row, after_ready_row, wait_row, WaitedRule, BlockRule, Tells, MakeRule, is_full, HasPollable, EntryRule, entry_bytes, DropRule, OpenRule, opened_standing, OtherRule, held_front, read_row, poll_row, bytes_in, count_in}
use Rattle.wasi_host.specs.Run as run
use Rattle.wasi_host.specs.laws.Entries.{IsOwn, none_polled, none_pollable}
use Rattle.wasi_host.specs.laws.Shown.{met_bytes, parent_or, standing_by, standing_at, standing_in, capacity_in, shown, cond_same, with_own, put_alike, put_same, stands_there, put_standing, put_none, standing_kept, standing_pushed, standing_dropped, asked_none, row_next}

counted_is : (it : Reading) → skipped_told (skipped it) ≡ counted (reading_told it)
counted_is (stdin.Bytes bytes) = refl
counted_is stdin.Ended = refl
counted_is (stdin.Fault kind) = refl

waiting_is : (wait : Option ℕ) (deliveries : ℕ) → is_waiting wait deliveries ≡ not (is_over wait deliveries)
waiting_is None deliveries = refl
waiting_is (Some since) deliveries = refl

ready_is : (m : Mode) → ready_in m ≡ ready_row m
ready_is Idle = refl
ready_is (Asked n) = refl
ready_is Held = refl
ready_is (Failed kind) = refl
ready_is Closed = refl

-- ---- a call of one guest
-- what a call comes to on the shared input: its reply, and what it leaves of its guest's own and of the input
pub record Called : Type 0 where
  pub reply : Reply
  pub own : Own
  pub left : Shared

abbrev pub called_by : Own → Doing Shared → Called
called_by own it = let done = act it.deed own in record { reply = done.reply; own = done.own; left = it.left }

-- what the call comes to: which bytes are handed out then, and the rule that the reply and what is left follow
pub record Does (input front : List ℕ) (shared : Shared) (guests : ℕ → Option Guest) (live : ℕ → FinSet nat_cmp) (told : Told) (g : ℕ) (guest : Guest) (done : Called) (handed : Reply → List ℕ) (R : Reply → Sharing → Type 0) : Type 0 where
  pub front' : List ℕ
  pub front_is : front' ≡ front ++ handed done.reply
  pub input_is : input ≡ front' ++ (done.left.held ++ told.left)
  pub sound : IsSound done.left
  pub rule : R done.reply (shown front' done.left (at_number guests g (Some (with_own guest done.own))) live told)

-- ---- the bytes that a reply tells, and those that a skip passes over
fault_bytes : (kind : IoKind) → bytes_in (reply.Told (reading_told (told_fault kind))) ≡ []
fault_bytes BrokenPipe = refl
fault_bytes kind = refl

reading_bytes : (met : Met) → bytes_in (reply.Told (reading_told (reading met))) ≡ met_bytes met
reading_bytes NothingYet = refl
reading_bytes (Handed bytes) = refl
reading_bytes (stdin.Told kind) = fault_bytes kind
reading_bytes AtEnd = refl

polling_bytes : (met : Met) → bytes_in (reply.Told (polling_told (polling met))) ≡ met_bytes met
polling_bytes NothingYet = refl
polling_bytes (Handed bytes) = refl
polling_bytes (stdin.Told kind) = refl
polling_bytes AtEnd = refl

fault_count : (kind : IoKind) → count_in (reply.Told (skipped_told (skipped (told_fault kind)))) ≡ 0
fault_count BrokenPipe = refl
fault_count kind = refl

skipped_count : (met : Met) → count_in (reply.Told (skipped_told (skipped (reading met)))) ≡ length (met_bytes met)
skipped_count NothingYet = refl
skipped_count (Handed bytes) = refl
skipped_count (stdin.Told kind) = fault_count kind
skipped_count AtEnd = refl

slice_is : (input front bytes rest : List ℕ) → input ≡ (front ++ bytes) ++ rest → take (length bytes) (drop (length front) input) ≡ bytes
slice_is input front bytes rest e = rw e (grind (arith, common_steps))

ready_state : (m : Mode) (front : List ℕ) (shared : Shared) (guests : ℕ → Option Guest) (live : ℕ → FinSet nat_cmp) (told : Told) → shared.mode ≡ m → shown front (record { mode = asked_by_ready m; held = shared.held; captured = shared.captured; deliveries = shared.deliveries }) guests live told ≡ after_ready_row m (shown front shared guests live told)
ready_state Idle front shared guests live told is = refl
ready_state (Asked n) front shared guests live told is = λ i. record (shown front shared guests live told) { mode = sym is i }
ready_state Held front shared guests live told is = λ i. record (shown front shared guests live told) { mode = sym is i }
ready_state (Failed kind) front shared guests live told is = λ i. record (shown front shared guests live told) { mode = sym is i }
ready_state Closed front shared guests live told is = λ i. record (shown front shared guests live told) { mode = sym is i }

ready_sound : (m : Mode) (held : List ℕ) (c : Option ℕ) (d : ℕ) → HoldsIn m held → CapturedIn m c → IsSound (record { mode = asked_by_ready m; held = held; captured = c; deliveries = d })
ready_sound Idle held c d h k = record { holds = h; captures = asked_none c 65536 k }
ready_sound (Asked n) held c d h k = record { holds = h; captures = k }
ready_sound Held held c d h k = record { holds = h; captures = k }
ready_sound (Failed kind) held c d h k = record { holds = h; captures = k }
ready_sound Closed held c d h k = record { holds = h; captures = k }

abbrev pub none_handed : Reply → List ℕ
none_handed answer = []

module _ (input front : List ℕ) (shared : Shared) (guests : ℕ → Option Guest) (live : ℕ → FinSet nat_cmp) (told : Told) (g : ℕ) (guest : Guest) (there : guests g ≡ Some guest) (is : IsOwn guest.own (live g)) (sound : IsSound shared) (input_is : input ≡ front ++ (shared.held ++ told.left)) where
  abbrev now : Sharing
  now = shown front shared guests live told

  abbrev DoesCall : Called → (Reply → List ℕ) → (Reply → Sharing → Type 0) → Type 0
  DoesCall done handed R = Does input front shared guests live told g guest done handed R

  abbrev on_shared : Done → Called
  on_shared done = record { reply = done.reply; own = done.own; left = shared }

  -- a call that changes nothing
  still : (answer : Reply) (handed : Reply → List ℕ) (R : Reply → Sharing → Type 0) → handed answer ≡ [] → R answer now → DoesCall (record { reply = answer; own = guest.own; left = shared }) handed R
  still answer handed R none holds = record {
    front' = front;
    front_is = sym (append-nil front) ∙ ap (λ bytes. front ++ bytes) (sym none);
    input_is = input_is;
    sound = sound;
    rule = subst (R answer) (sym (put_same front shared guests live told g guest there)) holds;
  }

  -- a deed that the entries allow
  made_does : (it : Entry) (parent : Option ℕ) (R : Reply → Sharing → Type 0) → may_make it parent guest.own ≡ true → DoesCall (on_shared (made it parent guest.own)) none_handed R → DoesCall (called_by guest.own (doing (Make it parent) shared)) none_handed R
  made_does it parent R may holds = subst (λ b. DoesCall (on_shared (cond b (made it parent guest.own) (trapped ResourceWrongType guest.own))) none_handed R) (sym may) holds

  changed_does : (n : ℕ) (it : Entry) (answer : Answer) (left : Shared) (handed : Reply → List ℕ) (R : Reply → Sharing → Type 0) → may_change (entry_at guest.own n) it ≡ true → DoesCall (record { reply = reply.Told answer; own = with_kept guest.own n it; left = left }) handed R → DoesCall (called_by guest.own (doing (Change n it answer) left)) handed R
  changed_does n it answer left handed R may holds =
      subst (λ b. let done : Done = cond b (record { reply = reply.Told answer; own = with_kept guest.own n it }) (trapped ResourceWrongType guest.own) in DoesCall (record { reply = done.reply; own = done.own; left = left }) handed R) (sym may) holds

  -- ---- reads and skips
  record Reads (size : ℕ) : Type 0 where
    front' : List ℕ
    bytes : front' ≡ front ++ bytes_in (reply.Told (reading_told (reading_of shared size)))
    passed : front' ≡ front ++ take (count_in (reply.Told (skipped_told (skipped (reading_of shared size))))) (drop (length front) input)
    left_is : input ≡ front' ++ ((after_read shared size).held ++ told.left)
    sound_is : IsSound (after_read shared size)
    rule : ReadRule input now size (reading_told (reading_of shared size)) (shown front' (after_read shared size) (at_number guests g (Some (with_own guest guest.own))) live told)

  reads : (size : ℕ) → Reads size
  reads zero = record {
    front' = front;
    bytes = sym (append-nil front);
    passed = sym (append-nil front);
    left_is = input_is;
    sound_is = sound;
    rule = (refl, put_same front shared guests live told g guest there);
  }
  reads (suc n) =
      let next = row_next shared.mode input front shared told (suc n) refl sound input_is in
      let met = met_in shared.mode shared.held (suc n) in
      let rest = (after_read shared (suc n)).held ++ told.left in
      let there_is : input ≡ (front ++ met_bytes met) ++ rest = next.input_is ∙ ap (λ front. front ++ rest) next.front_is in
      record {
        front' = next.front';
        bytes = next.front_is ∙ ap (λ bytes. front ++ bytes) (sym (reading_bytes met));
        passed = next.front_is ∙ ap (λ bytes. front ++ bytes) (sym (ap (λ count. take count (drop (length front) input)) (skipped_count met) ∙ slice_is input front (met_bytes met) rest there_is));
        left_is = next.input_is;
        sound_is = next.sound;
        rule = (next.read guests live, put_same next.front' (after_read shared (suc n)) guests live told g guest there ∙ next.state guests live);
      }

  -- ---- an entry that keeps its wait
  -- the same entry again shows nothing new
  kept_alike : (n : ℕ) (it : Entry) (parent : Option ℕ) → held_at guest.own.table n ≡ Some (record { entry = it; parent = parent }) → shown front shared (at_number guests g (Some (with_own guest (with_kept guest.own n it)))) live told ≡ now
  kept_alike n it parent held =
      put_alike front shared guests live told g guest (with_kept guest.own n it) there
      (λ i m. (standing_kept guest.own n it parent m (ap parent_in held) ∙ cond_same (standing_in guest.own) m n (standing_by it parent) (ap standing_at held)) i) refl

  abbrev polled_called : Bool → Option ℕ → ℕ → ℕ → Called
  polled_called waiting wait n room = record {
    reply = reply.Told (polling_told (cond waiting stdin.Pending (polling (meeting_of shared room))));
    own = with_kept guest.own n (entry.Shared (on.Polled (cond waiting wait (wait_of (meeting_of shared room) shared.deliveries))));
    left = cond waiting shared (after_meeting shared room);
  }

  polls : (over : Bool) (wait : Option ℕ) (n room : ℕ) (parent : Option ℕ) → held_at guest.own.table n ≡ Some (record { entry = entry.Shared (on.Polled wait); parent = parent }) → DoesCall (polled_called (not over) wait n room) bytes_in (λ answer s'. Tells (λ it. PollRule over input now g n room it s') answer)
  polls false wait n room parent held = record {
    front' = front;
    front_is = sym (append-nil front);
    input_is = input_is;
    sound = sound;
    rule = (refl, kept_alike n (entry.Shared (on.Polled wait)) parent held);
  }
  polls true wait n room parent held =
      let next = row_next shared.mode input front shared told room refl sound input_is in
      let left = wait_of (meeting_of shared room) shared.deliveries in
      record {
        front' = next.front';
        front_is = next.front_is ∙ ap (λ bytes. front ++ bytes) (sym (polling_bytes (met_in shared.mode shared.held room)));
        input_is = next.input_is;
        sound = next.sound;
        rule = (
          next.poll guests live,
          put_standing next.front' (after_meeting shared room) guests live told g n guest (with_kept guest.own n (entry.Shared (on.Polled left))) (run.Polled left) there (λ m. standing_kept guest.own n (entry.Shared (on.Polled left)) parent m (ap parent_in held)) refl
              ∙ ap (λ s. with_standing s g n (run.Polled left)) (next.state guests live)
              ∙ ap (λ wait. with_standing (after_row shared.mode now room) g n (run.Polled wait)) (next.wait guests live),
        );
      }

  waits : (over : Bool) (since n : ℕ) (parent : Option ℕ) → held_at guest.own.table n ≡ Some (record { entry = entry.Shared (on.Pollable (Some since)); parent = parent }) → DoesCall (record { reply = reply.Told (tell.Truth over); own = with_kept guest.own n (entry.Shared (on.Pollable (cond over None (Some since)))); left = shared }) none_handed (λ answer s'. Tells (λ it. WaitedRule over now g n (parent_or parent) it s') answer)
  waits false since n parent held = record {
    front' = front;
    front_is = sym (append-nil front);
    input_is = input_is;
    sound = sound;
    rule = (refl, kept_alike n (entry.Shared (on.Pollable (Some since))) parent held);
  }
  waits true since n parent held = record {
    front' = front;
    front_is = sym (append-nil front);
    input_is = input_is;
    sound = sound;
    rule = (refl, put_standing front shared guests live told g n guest (with_kept guest.own n (entry.Shared (on.Pollable None))) (run.Pollable (parent_or parent) None) there (λ m. standing_kept guest.own n (entry.Shared (on.Pollable None)) parent m (ap parent_in held)) refl);
  }

  blocks : (wait : Option ℕ) (n : ℕ) (parent : Option ℕ) → held_at guest.own.table n ≡ Some (record { entry = entry.Shared (on.Pollable wait); parent = parent }) → DoesCall (record { reply = reply.Told (tell.Truth (block_of shared wait)); own = with_kept guest.own n (entry.Shared (on.Pollable (wait_after_block shared wait))); left = after_block shared wait }) none_handed (λ answer s'. Tells (λ it. BlockRule wait now g n (parent_or parent) it s') answer)
  blocks None n parent held =
      let left : Option ℕ = cond (is_ready shared) None (Some shared.deliveries) in
      record {
        front' = front;
        front_is = sym (append-nil front);
        input_is = input_is;
        sound = ready_sound shared.mode shared.held shared.captured shared.deliveries sound.holds sound.captures;
        rule = (
          ap tell.Truth (ready_is shared.mode),
          put_standing front (after_ready shared) guests live told g n guest (with_kept guest.own n (entry.Shared (on.Pollable left))) (run.Pollable (parent_or parent) left) there (λ m. standing_kept guest.own n (entry.Shared (on.Pollable left)) parent m (ap parent_in held)) refl
              ∙ ap (λ s. with_standing s g n (run.Pollable (parent_or parent) left)) (ready_state shared.mode front shared guests live told refl)
              ∙ ap (λ ready. with_standing (after_ready_row shared.mode now) g n (run.Pollable (parent_or parent) (cond ready None (Some shared.deliveries)))) (ready_is shared.mode),
        );
      }
  blocks (Some since) n parent held = waits (nat_lt since shared.deliveries) since n parent held

  -- ---- a new entry
  makes : (it : Entry) (parent : Option ℕ) (stands : Standing) → standing_by it parent ≡ Some stands → DoesCall (on_shared (made it parent guest.own)) none_handed (λ answer s'. MakeRule (is_full now g) stands now g answer s')
  makes it parent stands shows =
      subst (λ full. DoesCall (on_shared (made it parent guest.own)) none_handed (λ answer s'. MakeRule full stands now g answer s')) (sym full_is) (by (nat_eq (live_count guest.own.table) guest.own.table.capacity) refl)
    where
      full_is : is_full now g ≡ nat_eq (live_count guest.own.table) guest.own.table.capacity
      full_is = λ i. nat_eq (is.count i) (capacity_in (there i))

      by : (full : Bool) → nat_eq (live_count guest.own.table) guest.own.table.capacity ≡ full → DoesCall (on_shared (cond full (trapped ResourceTableFull guest.own) (record { reply = reply.Handle (next_number guest.own.table); own = record { table = with_pushed guest.own.table it parent } }))) none_handed (λ answer s'. MakeRule full stands now g answer s')
      by true e = still (reply.Told (tell.Trap ResourceTableFull)) none_handed _ refl (refl, refl)
      by false e = record {
        front' = front;
        front_is = sym (append-nil front);
        input_is = input_is;
        sound = sound;
        rule = (
          next_number guest.own.table,
          refl,
          is.members (next_number guest.own.table) ∙ ap is_some (held-next_number guest.own.table is.table),
          put_standing front shared guests live told g (next_number guest.own.table) guest (record { table = with_pushed guest.own.table it parent }) stands there (λ m. standing_pushed guest.own it parent m ∙ ap (λ o. cond (nat_eq m (next_number guest.own.table)) o (standing_in guest.own m)) shows) refl,
        );
      }

  -- ---- each call on an entry of the shared input
  pub entry_does : (it : EntryCall) (n : ℕ) (e : SharedEntry) (parent : Option ℕ) → held_at guest.own.table n ≡ Some (record { entry = entry.Shared e; parent = parent }) → DoesCall (called_by guest.own (asked it (record { guest = g; number = n }) e shared)) (entry_bytes (standing_by (entry.Shared e) parent) it input now) (λ answer s'. EntryRule (standing_by (entry.Shared e) parent) it input now g n answer s')
  entry_does (call.Read size) n on.Reader parent held = let read = reads size in record { front' = read.front'; front_is = read.bytes; input_is = read.left_is; sound = read.sound_is; rule = read.rule }
  entry_does (call.Skip size) n on.Reader parent held = let read = reads size in record { front' = read.front'; front_is = read.passed; input_is = read.left_is; sound = read.sound_is; rule = (reading_told (reading_of shared size), read.rule, counted_is (reading_of shared size)) }
  entry_does call.Subscribe n on.Reader parent held = made_does (entry.Shared (on.Pollable None)) (Some n) _ (ap (λ o. goes_under (entry.Shared (on.Pollable None)) (entry_in o)) held) (makes (entry.Shared (on.Pollable None)) (Some n) (run.Pollable n None) refl)
  entry_does (call.PollRead room) n (on.Polled wait) parent held =
      changed_does n (entry.Shared (on.Polled (wait_after_poll shared wait room))) (polling_told (poll_of shared wait room)) (after_poll shared wait room) bytes_in _ (ap (λ o. may_change (entry_in o) (entry.Shared (on.Polled (wait_after_poll shared wait room)))) held)
      (subst (λ (waiting : Bool). DoesCall (polled_called waiting wait n room) bytes_in (λ (answer : Reply) (s' : Sharing). Tells (λ it. PollRule (is_over wait shared.deliveries) input now g n room it s') answer)) (sym (waiting_is wait shared.deliveries)) (polls (is_over wait shared.deliveries) wait n room parent held))
  entry_does call.Ready n (on.Pollable wait) parent held = record {
    front' = front;
    front_is = sym (append-nil front);
    input_is = input_is;
    sound = ready_sound shared.mode shared.held shared.captured shared.deliveries sound.holds sound.captures;
    rule = (ap tell.Truth (ready_is shared.mode), put_same front (after_ready shared) guests live told g guest there ∙ ready_state shared.mode front shared guests live told refl);
  }
  entry_does call.Block n (on.Pollable wait) parent held =
      changed_does n (entry.Shared (on.Pollable (wait_after_block shared wait))) (tell.Truth (block_of shared wait)) (after_block shared wait) none_handed _ (ap (λ o. may_change (entry_in o) (entry.Shared (on.Pollable (wait_after_block shared wait)))) held) (blocks wait n parent held)
  entry_does other n on.Reader parent held = still (reply.Told (tell.Trap ResourceWrongType)) (entry_bytes (Some run.Reader) other input now) (λ answer s'. EntryRule (Some run.Reader) other input now g n answer s') refl refl
  entry_does other n (on.Polled wait) parent held = still (reply.Told (tell.Trap ResourceWrongType)) (entry_bytes (Some (run.Polled wait)) other input now) (λ answer s'. EntryRule (Some (run.Polled wait)) other input now g n answer s') refl refl
  entry_does other n (on.Pollable wait) parent held = still (reply.Told (tell.Trap ResourceWrongType)) (entry_bytes (Some (run.Pollable (parent_or parent) wait)) other input now) (λ answer s'. EntryRule (Some (run.Pollable (parent_or parent) wait)) other input now g n answer s') refl refl

  -- a guest opens the shared input
  pub open_does : (how : Access) → DoesCall (called_by guest.own (doing (Make (entry.Shared (shared_entry how)) None) shared)) none_handed (λ answer s'. OpenRule true how now g answer s')
  open_does access.Plain = makes (entry.Shared on.Reader) None run.Reader refl
  open_does access.Polled = makes (entry.Shared (on.Polled None)) None (run.Polled None) refl

  -- ---- a drop
  pollable_is : (n : ℕ) (it : Entry) (parent : Option ℕ) → parent ≡ Some n → goes_under it (Some (entry.Shared on.Reader)) ≡ true → (wait : Option ℕ) × (standing_by it parent ≡ Some (run.Pollable n wait))
  pollable_is n (entry.Shared (on.Pollable wait)) parent e under = (wait, ap (λ o. Some (run.Pollable (parent_or o) wait)) e)
  pollable_is n (entry.Stream of to stream.Pollable) parent e under = absurd (true≢false (sym under))
  pollable_is n other parent e under = absurd (true≢false (sym under))

  -- what stands under a number goes under its entry
  goes : (n : ℕ) (child : Child guest.own.table n) → goes_under child.held.entry (entry_at guest.own n) ≡ true
  goes n child = ap (λ parent. may_make child.held.entry parent guest.own) (sym child.parent_is) ∙ is.placed child.number child.held child.is_held

  standing_there : (n : ℕ) → now.standing g n ≡ standing_in guest.own n
  standing_there n = ap (λ (standing : ℕ → Option Standing). standing n) (stands_there guests g guest there)

  has_pollable : (n : ℕ) → entry_at guest.own n ≡ Some (entry.Shared on.Reader) → Child guest.own.table n → HasPollable now g n
  has_pollable n reader child =
      let found = pollable_is n child.held.entry child.held.parent child.parent_is (ap (goes_under child.held.entry) (sym reader) ∙ goes n child) in
      (child.number, found.0, standing_there child.number ∙ ap standing_at child.is_held ∙ found.1)

  parent_is : (n : ℕ) (wait : Option ℕ) (it : Entry) (parent : Option ℕ) → may_make it parent guest.own ≡ true → standing_by it parent ≡ Some (run.Pollable n wait) → parent ≡ Some n
  parent_is n wait (entry.Shared (on.Pollable w)) None may e = absurd (true≢false (sym may))
  parent_is n wait (entry.Shared (on.Pollable w)) (Some p) may e = let same : p ≡ n = cc in ap Some same
  parent_is n wait (entry.Shared on.Reader) parent may e = absurd (cc)
  parent_is n wait (entry.Shared (on.Polled w)) parent may e = absurd (cc)
  parent_is n wait other parent may e = absurd (true≢false (sym (ap is_some e)))

  child_in : (n m : ℕ) (wait : Option ℕ) (o : Option (Row Entry)) → held_at guest.own.table m ≡ o → standing_at o ≡ Some (run.Pollable n wait) → Child guest.own.table n
  child_in n m wait None held e = absurd (true≢false (sym (ap is_some e)))
  child_in n m wait (Some it) held e =
      record { number = m; held = it; is_held = held; parent_is = parent_is n wait it.entry it.parent (is.placed m it held) e }

  no_pollable : (n : ℕ) → has_children guest.own.table n ≡ false → HasPollable now g n → ⊥
  no_pollable n none has =
      true≢false (sym (has_child guest.own.table n (child_in n has.0 has.1 (held_at guest.own.table has.0) refl (sym (standing_there has.0) ∙ has.2))) ∙ none)

  drops : (n : ℕ) (it : Entry) (parent : Option ℕ) (R : Reply → Sharing → Type 0) → held_at guest.own.table n ≡ Some (record { entry = it; parent = parent }) → (has_children guest.own.table n ≡ true → R (reply.Told (tell.Trap ResourceHasChildren)) now) → (has_children guest.own.table n ≡ false → (s' : Sharing) → s' ≡ without_standing now g n → R (reply.Told tell.Ok) s') → DoesCall (on_shared (dropped_at (Some it) n guest.own)) none_handed R
  drops n it parent R held some none = by (has_children guest.own.table n) refl
    where
      by : (has : Bool) → has_children guest.own.table n ≡ has → DoesCall (on_shared (cond has (trapped ResourceHasChildren guest.own) (record { reply = reply.Told tell.Ok; own = record { table = without guest.own.table n } }))) none_handed R
      by true e = still (reply.Told (tell.Trap ResourceHasChildren)) none_handed R refl (some e)
      by false e = record {
        front' = front;
        front_is = sym (append-nil front);
        input_is = input_is;
        sound = sound;
        rule = none e _ (put_none front shared guests live told g n guest (record { table = without guest.own.table n }) there (λ m. standing_dropped guest.own n m) refl);
      }

  -- nothing stands under an entry under which none goes
  childless : (n : ℕ) (it : Entry) (parent : Option ℕ) → held_at guest.own.table n ≡ Some (record { entry = it; parent = parent }) → ((child : Entry) → goes_under child (Some it) ≡ false) → has_children guest.own.table n ≡ true → ⊥
  childless n it parent held alone has =
      let child = child_of guest.own.table n has in
      true≢false (sym (goes n child) ∙ ap (λ o. goes_under child.held.entry (entry_in o)) held ∙ alone child.held.entry)

  -- a number at which nothing stands that is a matter of the shared input
  without_none : (n : ℕ) → now.standing g n ≡ None → without_standing now g n ≡ now
  without_none n none =
      let same : at_number (now.standing g) n None ≡ now.standing g = λ j k. cond_same {A = Option Standing} (now.standing g) k n None none j in
      λ i. record now { standing = λ m. cond_same {A = ℕ → Option Standing} now.standing m g (at_number (now.standing g) n None) (sym same) i }

  pub drop_does : (n : ℕ) (o : Option (Row Entry)) → held_at guest.own.table n ≡ o → DoesCall (on_shared (dropped_at (entry_in o) n guest.own)) none_handed (λ answer s'. DropRule (standing_at o) now g n answer s')
  drop_does n None held = still (reply.Told (tell.Trap ResourceNotPresent)) none_handed _ refl refl
  drop_does n (Some it) held = by it.entry it.parent held
    where
      by : (it : Entry) (parent : Option ℕ) → held_at guest.own.table n ≡ Some (record { entry = it; parent = parent }) → DoesCall (on_shared (dropped_at (Some it) n guest.own)) none_handed (λ answer s'. DropRule (standing_by it parent) now g n answer s')
      by (entry.Shared on.Reader) parent held = drops n (entry.Shared on.Reader) parent _ held (λ has. inl (has_pollable n (ap entry_in held) (child_of guest.own.table n has), refl, refl)) (λ none s' e. inr (no_pollable n none, refl, e))
      by (entry.Shared (on.Polled wait)) parent held = drops n (entry.Shared (on.Polled wait)) parent _ held (λ has. absurd (childless n (entry.Shared (on.Polled wait)) parent held (λ child. none_polled child wait) has)) (λ none s' e. (refl, e))
      by (entry.Shared (on.Pollable wait)) parent held = drops n (entry.Shared (on.Pollable wait)) parent _ held (λ has. absurd (childless n (entry.Shared (on.Pollable wait)) parent held (λ child. none_pollable child wait) has)) (λ none s' e. (refl, e))
      by other parent held = drops n other parent _ held (λ has. refl) (λ none s' e. e ∙ without_none n (standing_there n ∙ ap standing_at held))
