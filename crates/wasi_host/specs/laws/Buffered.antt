-- Over a whole run an output that buffers keeps what it accepted, in order, and tells a fault once.
use Rattle.std.proofs.Common.{◌≡◌, ℕ, zero, suc, ◌-◌, min, arith, Bool, true, false, cond, List, [], ◌∷◌, ◌++◌, length, take, drop, Option, Some, None, Result, Ok, Err, refl, ap, ◌∙◌, sym, subst, append-nil, append_assoc, take-append-drop, true≢false, inl, inr}
use Rattle.std.specs.Prelude.{nat_eq, nat_lt, if◌then◌else◌}
use Rattle.std.specs.Option.{option_map}
use Rattle.std.specs.Map.{lookup}
use Rattle.std.specs.Str.{bytes_eq}
use Rattle.wasi_base.specs.Source.{Told as Told'}
use Rattle.wasi_base.specs.declared.io_kind.IoKind.{IoKind}
use Rattle.wasi_base.specs.Sink.{written, after_write, flushed}
use Rattle.wasi_base.specs.declared.stream_error.StreamError.TheVariants.{Trap}
use Rattle.wasi_base.specs.declared.trap_text.TrapText.TheVariants.{WriteWhileFlushPending, WriteExceededBudget, ConcurrentCheckWrites, ConcurrentWrites, ConcurrentFlushes, ResourceWrongType}
use Rattle.wasi_streams.specs.declared.writer_turn.Trouble.{Trouble}
use Rattle.wasi_streams.specs.declared.writer_turn.Trouble.TheVariants.{Nothing, Untold, Told}
use Rattle.wasi_streams.specs.Outputs.{Outlet, taken_with, after_flushed}
use Rattle.wasi_streams.specs.Writer.{Writer, budget_left, permit, told_first, after_told, with_accepted, writer_check_write, writer_write, writer_flush, writer_is_ready, after_writer_check_write, after_writer_write, after_writer_flush, written_left, flushed_left}
use Rattle.std.proofs.lemmas.Bool.Decides.{nat_tests}
use Rattle.std.proofs.lemmas.Grind.{common_steps}
use Rattle.wasi_base.specs.declared.polled.Polled.{Polled}
use Rattle.wasi_base.specs.declared.polled.Polled.TheVariants as polled
use Rattle.wasi_cli.specs.declared.handle.StdioHandle.{StdioHandle}
use Rattle.wasi_cli.specs.declared.handle.StdioHandle.TheVariants.{Ready}
use Rattle.wasi_cli.specs.declared.stdout_handle.StdoutHandle.{StdoutHandle}
use Rattle.wasi_cli.specs.Turns.{Turn, after_ask, after_free}
use Rattle.wasi_cli.specs.Shared.{unless_held, after_unless_held}
use Rattle.wasi_cli.specs.Operations.{outcome_of, count_outcome, after_count, write_outcome, after_write as after_polled_write, flush_outcome, after_flush, checked_outcome, flushed_outcome, after_flushed as after_flush_ended}
use Rattle.wasi_cli.specs.Polls.{Poll, start_of, poll_by, poll_answer, or_none, with_none}
use Rattle.wasi_cli.specs.laws.Starts.{runs, waits, each_start}
use Rattle.wasi_cli.specs.StdoutPolls.{of_handle, write_poll, ended_by, second_poll, first_poll, then_second, flush_from_first, flush_poll}
use Rattle.wasi_script.specs.declared.lines.OutputDeclaration.{OutputDeclaration}
use Rattle.wasi_script.specs.declared.lines.OutputDeclaration.TheVariants as declared_out
use Rattle.wasi_script.specs.declared.lines.Standard.{Standard}
use Rattle.wasi_script.specs.declared.lines.EntryCall.{EntryCall}
use Rattle.wasi_script.specs.declared.lines.EntryCall.TheVariants as on
use Rattle.wasi_script.specs.declared.lines.Line.{Line}
use Rattle.wasi_reply.specs.declared.reply.Told.{Told as Answer}
use Rattle.wasi_reply.specs.declared.reply.Told.TheVariants as told
use Rattle.wasi_reply.specs.declared.reply.Reply.{Reply}
use Rattle.wasi_reply.specs.declared.reply.Reply.TheVariants as reply
use Rattle.wasi_host.specs.declared.entry.StreamEntry.{StreamEntry}
use Rattle.wasi_host.specs.declared.entry.StreamEntry.TheVariants as at
use Rattle.wasi_host.specs.declared.stream.OutStream.{OutStream}
use Rattle.wasi_host.specs.declared.stream.OutStream.TheVariants as stream
use Rattle.wasi_host.specs.declared.entry.Entry.TheVariants as entry
use Rattle.wasi_host.specs.declared.deed.Deed.TheVariants.{Change}
use Rattle.wasi_host.specs.declared.leaver.Leaver.{Leaver}
use Rattle.wasi_host.specs.Turns.{InTurn}
use Rattle.wasi_host.specs.OutStreams.{taken_of, output_without}
use Rattle.wasi_host.specs.Tasks.{output_turned, writer_turned}
use Rattle.wasi_host.specs.Deeds.{Own, entry_at, act, apart, with_kept, trapped, may_change}
use Rattle.wasi_host.specs.Calls.{Owner, result_told, poll_told, is_done}
use Rattle.wasi_host.specs.Host.{Host, new_output, step_reply, step_host, step_told, given_for, size_read, new_host, host_end}
use Rattle.wasi_host.specs.Promises.{step_call_on}
use Rattle.wasi_host.specs.Buffers.{buffer_in, holder_in, accepted_of, accepted_by, accepted, Failed, HasAccepted, OnBuffer, TellsFault, MayTellFault, KeepsFault, FaultOf, FaultStep, FaultsAreTold, BuffersKeep}
use Rattle.wasi_host.specs.laws.Tasks.{sort_of, sent_sort}
use Rattle.wasi_host.specs.laws.Filled.{printed}
use Rattle.wasi_host.specs.laws.Contexts.{same_streams}
use Rattle.wasi_host.specs.laws.Walk.{HoldsOfEach, left_by, told_by, step_holds}

-- ---- the bytes: an output that is not declared accepted none, and of one that does not buffer nothing is said
abbrev Has : Option OutStream → List ℕ → Type 0
Has None accepted = accepted ≡ []
Has (Some (stream.Buffered it)) accepted = HasAccepted it.stream.trouble it.stream.sink.taken it.stream.buffered accepted
Has (Some other) accepted = Unit {0}

abbrev Keeps : Option (EntryCall × StreamEntry) → Reply → Option OutStream → Option OutStream → Type 0
Keeps on answer before after = (so_far : List ℕ) → Has before so_far → Has after (so_far ++ accepted_by on answer)

-- nothing more was accepted
no_more : (o : Option OutStream) (so_far : List ℕ) → Has o so_far → Has o (so_far ++ [])
no_more o so_far has = subst (Has o) (sym (append-nil so_far)) has

failed_more : (taken buffered so_far : List ℕ) → Failed taken buffered so_far → Failed taken buffered (so_far ++ [])
failed_more taken buffered so_far failed = subst (Failed taken buffered) (sym (append-nil so_far)) failed

has_more : (trouble : Trouble) (taken buffered so_far : List ℕ) → HasAccepted trouble taken buffered so_far → HasAccepted trouble taken buffered (so_far ++ [])
has_more trouble taken buffered so_far has = subst (HasAccepted trouble taken buffered) (sym (append-nil so_far)) has

new_keeps : (it : OutputDeclaration) (answer : Reply) → Keeps None answer None (Some (new_output it))
new_keeps (declared_out.Buffered room plan budget) answer = λ so_far none. append-nil so_far ∙ none
new_keeps (declared_out.Pipe capacity) answer = λ so_far none. tt
new_keeps (declared_out.File room plan) answer = λ so_far none. tt
new_keeps (declared_out.Stdio room plan) answer = λ so_far none. tt

abbrev HasW : Writer Outlet → List ℕ → Type 0
HasW w accepted = HasAccepted w.trouble w.sink.taken w.buffered accepted

module _ (sink : Outlet) (budget : ℕ) where
  abbrev buffer : List ℕ → Bool → Trouble → Writer Outlet
  buffer buffered flushing trouble = record { sink = sink; budget = budget; buffered = buffered; flushing = flushing; trouble = trouble }

  -- a call that asks, by what the output is; its own rules follow where no fault is to be told
  write_keeps : (bytes buffered : List ℕ) (flushing over : Bool) (trouble : Trouble) (so_far : List ℕ) → HasAccepted trouble sink.taken buffered so_far
      → let w = buffer buffered flushing trouble in
      HasW (after_told trouble w (if flushing then w else if over then w else with_accepted w bytes)) (so_far ++ accepted_of (on.Write bytes) at.Plain (reply.Told (result_told is_done (told_first trouble (if flushing then Err (Trap WriteWhileFlushPending) else if over then Err (Trap WriteExceededBudget) else Ok tt)))))
  write_keeps bytes buffered true over Nothing so_far has = has_more Nothing sink.taken buffered so_far has
  write_keeps bytes buffered false true Nothing so_far has = has_more Nothing sink.taken buffered so_far has
  write_keeps bytes buffered false false Nothing so_far has = ap (λ all. all ++ bytes) has ∙ append_assoc sink.taken buffered bytes
  write_keeps bytes buffered flushing over (Untold kind) so_far has = failed_more sink.taken buffered so_far has
  write_keeps bytes buffered flushing over Told so_far has = failed_more sink.taken buffered so_far has

  told_keeps : (buffered : List ℕ) (flushing then_flushing : Bool) (trouble : Trouble) (so_far : List ℕ) → HasAccepted trouble sink.taken buffered so_far → HasW (after_told trouble (buffer buffered flushing trouble) (buffer buffered then_flushing trouble)) (so_far ++ [])
  told_keeps buffered flushing then_flushing Nothing so_far has = has_more Nothing sink.taken buffered so_far has
  told_keeps buffered flushing then_flushing (Untold kind) so_far has = failed_more sink.taken buffered so_far has
  told_keeps buffered flushing then_flushing Told so_far has = failed_more sink.taken buffered so_far has

  -- a turn of the task
  turn_keeps : (buffered : List ℕ) (flushing : Bool) (trouble : Trouble) (so_far : List ℕ) → HasAccepted trouble sink.taken buffered so_far → HasW (writer_turned (buffer buffered flushing trouble)).left (so_far ++ [])
  turn_keeps buffered flushing (Untold kind) so_far has = failed_more sink.taken buffered so_far has
  turn_keeps buffered flushing Told so_far has = failed_more sink.taken buffered so_far has
  turn_keeps [] false Nothing so_far has = has_more Nothing sink.taken [] so_far has
  turn_keeps [] true Nothing so_far has = by (flushed sink.limits)
    where
      by : (flush : Result (Unit {0}) IoKind) → HasW (flushed_left flush (buffer [] true Nothing) (after_flushed sink)) (so_far ++ [])
      by (Ok done) = has_more Nothing sink.taken [] so_far has
      by (Err kind) = ([], append-nil so_far ∙ has, refl)
  turn_keeps (b ∷ bytes) flushing Nothing so_far has = by (written sink.limits (length (b ∷ bytes)))
    where
      by : (part : Result ℕ IoKind) → HasW (written_left part (buffer (b ∷ bytes) flushing Nothing) (record { taken = taken_with sink.taken (b ∷ bytes) part; limits = after_write sink.limits (length (b ∷ bytes)) })) (so_far ++ [])
      by (Ok n) = append-nil so_far ∙ has ∙ ap (λ rest. sink.taken ++ rest) (sym (take-append-drop n (b ∷ bytes))) ∙ sym (append_assoc sink.taken (take n (b ∷ bytes)) (drop n (b ∷ bytes)))
      by (Err kind) = (b ∷ bytes, append-nil so_far ∙ has, refl)

  -- ---- faults
  write_fault : (bytes buffered : List ℕ) (flushing over : Bool) (trouble : Trouble) → let w = buffer buffered flushing trouble in
      TellsFault trouble (reply.Told (result_told is_done (told_first trouble (if flushing then Err (Trap WriteWhileFlushPending) else if over then Err (Trap WriteExceededBudget) else Ok tt)))) (after_told trouble w (if flushing then w else if over then w else with_accepted w bytes)).trouble
  write_fault bytes buffered true over Nothing = refl
  write_fault bytes buffered false true Nothing = refl
  write_fault bytes buffered false false Nothing = refl
  write_fault bytes buffered flushing over (Untold kind) = (refl, refl)
  write_fault bytes buffered flushing over Told = (refl, refl)

  check_fault : (buffered : List ℕ) (flushing : Bool) (trouble : Trouble) (count : ℕ) → let w = buffer buffered flushing trouble in TellsFault trouble (reply.Told (result_told told.Count (told_first trouble (Ok count)))) (after_told trouble w w).trouble
  check_fault buffered flushing Nothing count = refl
  check_fault buffered flushing (Untold kind) count = (refl, refl)
  check_fault buffered flushing Told count = (refl, refl)

  flush_fault : (buffered : List ℕ) (flushing : Bool) (trouble : Trouble) → TellsFault trouble (reply.Told (result_told is_done (told_first trouble (Ok tt)))) (after_told trouble (buffer buffered flushing trouble) (buffer buffered true trouble)).trouble
  flush_fault buffered flushing Nothing = refl
  flush_fault buffered flushing (Untold kind) = (refl, refl)
  flush_fault buffered flushing Told = (refl, refl)

  turn_fault : (buffered : List ℕ) (flushing : Bool) (trouble : Trouble) → KeepsFault trouble (writer_turned (buffer buffered flushing trouble)).left.trouble
  turn_fault buffered flushing Nothing = tt
  turn_fault buffered flushing (Untold kind) = refl
  turn_fault buffered flushing Told = refl

  -- ---- polls, with the turn
  write_trouble : (bytes buffered : List ℕ) (flushing over : Bool) → (if flushing then buffer buffered flushing Nothing else if over then buffer buffered flushing Nothing else with_accepted (buffer buffered flushing Nothing) bytes).trouble ≡ Nothing
  write_trouble bytes buffered true over = refl
  write_trouble bytes buffered false true = refl
  write_trouble bytes buffered false false = refl

  -- a write of as many bytes as are permitted is accepted whole
  permitted : (bytes buffered so_far : List ℕ) (over : Bool) → over ≡ false → so_far ≡ sink.taken ++ buffered → let w = buffer buffered false Nothing in HasW (if over then w else with_accepted w bytes) (so_far ++ bytes)
  permitted bytes buffered so_far true within has = absurd (true≢false within)
  permitted bytes buffered so_far false within has = ap (λ all. all ++ bytes) has ∙ append_assoc sink.taken buffered bytes

  part_within : (left n m : ℕ) (piece : List ℕ) → min left (length piece) ≡ suc m → nat_lt left (length (take (suc m) piece)) ≡ false
  part_within left n m piece is = grind (arith, nat_tests, common_steps, is)

  counted_keeps : (piece buffered : List ℕ) (flushing : Bool) (so_far : List ℕ) → HasAccepted Nothing sink.taken buffered so_far → let w = buffer buffered flushing Nothing in (n : ℕ) → min (permit w) (length piece) ≡ n → HasW (after_count w piece n) (so_far ++ accepted_of (on.PollWrite piece) (at.Polled (record { handle = Ready; flushing = false })) (reply.Told (poll_told told.Count (or_none 0 (poll_answer (count_outcome n))))))
  counted_keeps piece buffered flushing so_far has zero is = has_more Nothing sink.taken buffered so_far has
  counted_keeps piece buffered true so_far has (suc m) is = let none : min 0 (length piece) ≡ suc m = is in absurd (omega (arith, none))
  counted_keeps piece buffered false so_far has (suc m) is = permitted (take (suc m) piece) buffered so_far (nat_lt (budget - length buffered) (length (take (suc m) piece))) (part_within (budget - length buffered) 0 m piece is) has

  run_keeps : (handle : StdoutHandle) (piece buffered : List ℕ) (flushing : Bool) (trouble : Trouble) (so_far : List ℕ) → HasAccepted trouble sink.taken buffered so_far → let w = buffer buffered flushing trouble in HasW (after_polled_write w piece) (so_far ++ accepted_of (on.PollWrite piece) (at.Polled handle) (reply.Told (poll_told told.Count (or_none 0 (poll_answer (write_outcome w piece))))))
  run_keeps handle piece buffered flushing Nothing so_far has = counted_keeps piece buffered flushing so_far has (min (permit (buffer buffered flushing Nothing)) (length piece)) refl
  run_keeps handle piece buffered flushing (Untold kind) so_far has = failed_more sink.taken buffered so_far has
  run_keeps handle piece buffered flushing Told so_far has = failed_more sink.taken buffered so_far has

  count_trouble : (piece buffered : List ℕ) (flushing : Bool) (n : ℕ) → (after_count (buffer buffered flushing Nothing) piece n).trouble ≡ Nothing
  count_trouble piece buffered flushing zero = refl
  count_trouble piece buffered flushing (suc m) = write_trouble (take (suc m) piece) buffered flushing (nat_lt (budget - length buffered) (length (take (suc m) piece)))

  run_fault : (piece buffered : List ℕ) (flushing : Bool) (trouble : Trouble) → let w = buffer buffered flushing trouble in MayTellFault trouble (reply.Told (poll_told told.Count (or_none 0 (poll_answer (write_outcome w piece))))) (after_polled_write w piece).trouble
  run_fault piece buffered flushing Nothing = count_trouble piece buffered flushing (min (permit (buffer buffered flushing Nothing)) (length piece))
  run_fault piece buffered flushing (Untold kind) = inr (refl, refl)
  run_fault piece buffered flushing Told = refl

  checked_has : (buffered : List ℕ) (flushing then_flushing : Bool) (trouble : Trouble) (so_far : List ℕ) → HasAccepted trouble sink.taken buffered so_far → HasW (after_told trouble (buffer buffered flushing trouble) (buffer buffered then_flushing trouble)) so_far
  checked_has buffered flushing then_flushing Nothing so_far has = has
  checked_has buffered flushing then_flushing (Untold kind) so_far has = has
  checked_has buffered flushing then_flushing Told so_far has = has

kept_fault : (trouble : Trouble) → KeepsFault trouble trouble
kept_fault Nothing = tt
kept_fault (Untold kind) = refl
kept_fault Told = refl

may_fault : (trouble : Trouble) (answer : Reply) → MayTellFault trouble answer trouble
may_fault Nothing answer = refl
may_fault (Untold kind) answer = inl refl
may_fault Told answer = refl

-- ---- plain calls, by who has the turn
plain_write : (holder : Option Owner) (bytes : List ℕ) (w : Writer Outlet) (so_far : List ℕ) → HasW w so_far → HasW (after_unless_held holder w (after_writer_write w bytes)) (so_far ++ accepted_of (on.Write bytes) at.Plain (reply.Told (result_told is_done (unless_held holder ConcurrentWrites (writer_write w bytes)))))
plain_write None bytes w so_far has = write_keeps w.sink w.budget bytes w.buffered w.flushing (nat_lt (budget_left w) (length bytes)) w.trouble so_far has
plain_write (Some who) bytes w so_far has = has_more w.trouble w.sink.taken w.buffered so_far has

plain_check : (holder : Option Owner) (w : Writer Outlet) (so_far : List ℕ) → HasW w so_far → HasW (after_unless_held holder w (after_writer_check_write w)) (so_far ++ [])
plain_check None w so_far has = told_keeps w.sink w.budget w.buffered w.flushing w.flushing w.trouble so_far has
plain_check (Some who) w so_far has = has_more w.trouble w.sink.taken w.buffered so_far has

plain_flush : (holder : Option Owner) (w : Writer Outlet) (so_far : List ℕ) → HasW w so_far → HasW (after_unless_held holder w (after_writer_flush w)) (so_far ++ [])
plain_flush None w so_far has = told_keeps w.sink w.budget w.buffered w.flushing true w.trouble so_far has
plain_flush (Some who) w so_far has = has_more w.trouble w.sink.taken w.buffered so_far has

write_tells : (holder : Option Owner) (bytes : List ℕ) (w : Writer Outlet) → FaultOf (on.Write bytes) at.Plain holder w.trouble (reply.Told (result_told is_done (unless_held holder ConcurrentWrites (writer_write w bytes)))) (after_unless_held holder w (after_writer_write w bytes)).trouble
write_tells None bytes w = write_fault w.sink w.budget bytes w.buffered w.flushing (nat_lt (budget_left w) (length bytes)) w.trouble
write_tells (Some who) bytes w = kept_fault w.trouble

check_tells : (holder : Option Owner) (w : Writer Outlet) → FaultOf on.CheckWrite at.Plain holder w.trouble (reply.Told (result_told told.Count (unless_held holder ConcurrentCheckWrites (writer_check_write w)))) (after_unless_held holder w (after_writer_check_write w)).trouble
check_tells None w = check_fault w.sink w.budget w.buffered w.flushing w.trouble (permit w)
check_tells (Some who) w = kept_fault w.trouble

flush_tells : (holder : Option Owner) (w : Writer Outlet) → FaultOf on.Flush at.Plain holder w.trouble (reply.Told (result_told is_done (unless_held holder ConcurrentFlushes (writer_flush w)))) (after_unless_held holder w (after_writer_flush w)).trouble
flush_tells None w = flush_fault w.sink w.budget w.buffered w.flushing w.trouble
flush_tells (Some who) w = kept_fault w.trouble

-- ---- a polled write
module _ (handle : StdoutHandle) (owner : Owner) (turn : Turn) (w : Writer Outlet) where
  abbrev written_told : Poll StdoutHandle ℕ (Writer Outlet) → Reply
  written_told poll = reply.Told (poll_told told.Count poll.answer)

  poll_write_keeps : (piece so_far : List ℕ) → HasW w so_far → let poll = write_poll handle owner turn w piece in HasW poll.stream (so_far ++ accepted_of (on.PollWrite piece) (at.Polled handle) (written_told poll))
  poll_write_keeps [] so_far has = has_more w.trouble w.sink.taken w.buffered so_far has
  poll_write_keeps (b ∷ bytes) so_far has =
      each_start (λ start. let poll = of_handle handle.flushing (with_none 0 (poll_by start handle.handle owner turn w (write_outcome w (b ∷ bytes)) (after_polled_write w (b ∷ bytes)))) in HasW poll.stream (so_far ++ accepted_of (on.PollWrite (b ∷ bytes)) (at.Polled handle) (written_told poll)))
      (has_more w.trouble w.sink.taken w.buffered so_far has)
      (has_more w.trouble w.sink.taken w.buffered so_far has)
      (run_keeps w.sink w.budget handle (b ∷ bytes) w.buffered w.flushing w.trouble so_far has)
      (start_of handle.handle turn owner)

  poll_write_fault : (piece : List ℕ) → let poll = write_poll handle owner turn w piece in MayTellFault w.trouble (written_told poll) poll.stream.trouble
  poll_write_fault [] = may_fault w.trouble _
  poll_write_fault (b ∷ bytes) =
      each_start (λ start. let poll = of_handle handle.flushing (with_none 0 (poll_by start handle.handle owner turn w (write_outcome w (b ∷ bytes)) (after_polled_write w (b ∷ bytes)))) in MayTellFault w.trouble (written_told poll) poll.stream.trouble)
      (may_fault w.trouble _)
      (may_fault w.trouble _)
      (run_fault w.sink w.budget (b ∷ bytes) w.buffered w.flushing w.trouble)
      (start_of handle.handle turn owner)

-- ---- a polled flush
abbrev flushed_told : Poll StdoutHandle (Unit {0}) (Writer Outlet) → Reply
flushed_told poll = reply.Told (poll_told is_done poll.answer)

if_ready : (b : Bool) (w : Writer Outlet) (then_flushing : Bool) (so_far : List ℕ) → HasW w so_far → HasW (if b then after_told w.trouble w (buffer w.sink w.budget w.buffered then_flushing w.trouble) else w) so_far
if_ready true w then_flushing so_far has = checked_has w.sink w.budget w.buffered w.flushing then_flushing w.trouble so_far has
if_ready false w then_flushing so_far has = has

second_keeps : (h : StdioHandle) (owner : Owner) (turn : Turn) (w : Writer Outlet) (so_far : List ℕ) → HasW w so_far → HasW (second_poll h owner turn w).stream so_far
second_keeps h owner turn w so_far has =
    each_start (λ start. HasW (poll_by start h owner turn w (flushed_outcome w) (after_flush_ended w)).stream so_far)
    (has)
    (has)
    (if_ready (writer_is_ready w) w w.flushing so_far has)
    (start_of h turn owner)

first_keeps : (h : StdioHandle) (owner : Owner) (turn : Turn) (w : Writer Outlet) (so_far : List ℕ) → HasW w so_far → HasW (first_poll h owner turn w).stream so_far
first_keeps h owner turn w so_far has =
    each_start (λ start. HasW (poll_by start h owner turn w (flush_outcome w) (after_flush w)).stream so_far)
    (has)
    (has)
    (if_ready (writer_is_ready w) w true so_far has)
    (start_of h turn owner)

then_keeps : (answer : Polled (Option (Unit {0}))) (first : Poll StdioHandle (Option (Unit {0})) (Writer Outlet)) (owner : Owner) (so_far : List ℕ) → HasW first.stream so_far → HasW (then_second answer first owner).stream so_far
then_keeps polled.Pending first owner so_far has = has
then_keeps (polled.Ready None) first owner so_far has = has
then_keeps (polled.Ready (Some done)) first owner so_far has = second_keeps first.handle owner first.turn first.stream so_far has
then_keeps (polled.Failed kind) first owner so_far has = has

poll_flush_keeps : (handle : StdoutHandle) (owner : Owner) (turn : Turn) (w : Writer Outlet) (so_far : List ℕ) → HasW w so_far → HasW (flush_poll handle owner turn w).stream so_far
poll_flush_keeps handle owner turn w so_far has = by handle.flushing
  where
    by : (b : Bool) → HasW (if b then second_poll handle.handle owner turn w else flush_from_first (first_poll handle.handle owner turn w) owner).stream so_far
    by true = second_keeps handle.handle owner turn w so_far has
    by false = let first = first_poll handle.handle owner turn w in then_keeps first.answer first owner so_far (first_keeps handle.handle owner turn w so_far has)

second_runs : (h : StdioHandle) (owner : Owner) (turn : Turn) (sink : Outlet) (budget : ℕ) (buffered : List ℕ) (flushing : Bool) (trouble : Trouble) (b : Bool) → let w = buffer sink budget buffered flushing trouble in
    MayTellFault trouble (flushed_told (ended_by (poll_by runs h owner turn w (if b then checked_outcome (writer_check_write w) else waits) (if b then after_writer_check_write w else w)))) (if b then after_writer_check_write w else w).trouble
second_runs h owner turn sink budget buffered flushing trouble false = may_fault trouble _
second_runs h owner turn sink budget buffered flushing Nothing true = refl
second_runs h owner turn sink budget buffered flushing (Untold kind) true = inr (refl, refl)
second_runs h owner turn sink budget buffered flushing Told true = refl

second_fault : (h : StdioHandle) (owner : Owner) (turn : Turn) (w : Writer Outlet) → let poll = second_poll h owner turn w in MayTellFault w.trouble (flushed_told poll) poll.stream.trouble
second_fault h owner turn w =
    each_start (λ start. let poll = ended_by (poll_by start h owner turn w (flushed_outcome w) (after_flush_ended w)) in MayTellFault w.trouble (flushed_told poll) poll.stream.trouble)
    (may_fault w.trouble _)
    (may_fault w.trouble _)
    (second_runs h owner turn w.sink w.budget w.buffered w.flushing w.trouble (writer_is_ready w))
    (start_of h turn owner)

first_runs : (h : StdioHandle) (owner : Owner) (turn : Turn) (sink : Outlet) (budget : ℕ) (buffered : List ℕ) (flushing : Bool) (trouble : Trouble) (b : Bool) → let w = buffer sink budget buffered flushing trouble in
    let poll = flush_from_first (poll_by runs h owner turn w (if b then outcome_of (writer_flush w) else waits) (if b then after_writer_flush w else w)) owner in MayTellFault trouble (flushed_told poll) poll.stream.trouble
first_runs h owner turn sink budget buffered flushing trouble false = may_fault trouble _
first_runs h owner turn sink budget buffered flushing Nothing true = second_fault Ready owner (after_free (after_ask turn owner) owner) (buffer sink budget buffered true Nothing)
first_runs h owner turn sink budget buffered flushing (Untold kind) true = inr (refl, refl)
first_runs h owner turn sink budget buffered flushing Told true = refl

first_fault : (h : StdioHandle) (owner : Owner) (turn : Turn) (w : Writer Outlet) → let poll = flush_from_first (first_poll h owner turn w) owner in MayTellFault w.trouble (flushed_told poll) poll.stream.trouble
first_fault h owner turn w =
    each_start (λ start. let poll = flush_from_first (poll_by start h owner turn w (flush_outcome w) (after_flush w)) owner in MayTellFault w.trouble (flushed_told poll) poll.stream.trouble)
    (may_fault w.trouble _)
    (may_fault w.trouble _)
    (first_runs h owner turn w.sink w.budget w.buffered w.flushing w.trouble (writer_is_ready w))
    (start_of h turn owner)

poll_flush_fault : (handle : StdoutHandle) (owner : Owner) (turn : Turn) (w : Writer Outlet) → let poll = flush_poll handle owner turn w in MayTellFault w.trouble (flushed_told poll) poll.stream.trouble
poll_flush_fault handle owner turn w = by handle.flushing
  where
    by : (b : Bool) → let poll = if b then second_poll handle.handle owner turn w else flush_from_first (first_poll handle.handle owner turn w) owner in MayTellFault w.trouble (flushed_told poll) poll.stream.trouble
    by true = second_fault handle.handle owner turn w
    by false = first_fault handle.handle owner turn w

-- ---- an entry that stands at its number is changed
change_told : (own : Own) (n : ℕ) (of : Option ℕ) (to : Standard) (old new : StdoutHandle) (answer : Answer) → entry_at own n ≡ Some (entry.Stream of to (at.Polled old)) → (act (apart (Change n (entry.Stream of to (at.Polled new)) answer)) own).reply ≡ reply.Told answer
change_told own n of to old new answer held =
    ap (λ may. (cond may (record { reply = reply.Told answer; own = with_kept own n (entry.Stream of to (at.Polled new)) }) (trapped ResourceWrongType own)).reply) (ap (λ o. may_change o (entry.Stream of to (at.Polled new))) held ∙ same_streams of to)

-- ---- any call
unsaid : (s : OutStream) → nat_eq (sort_of s) 2 ≡ false → (so_far : List ℕ) → Has (Some s) so_far
unsaid (stream.Buffered it) e so_far = absurd (true≢false e)
unsaid (stream.Pipe pipe) e so_far = tt
unsaid (stream.File out) e so_far = tt
unsaid (stream.Stdio out) e so_far = tt
unsaid stream.Closed e so_far = tt
unsaid stream.Sink e so_far = tt

module _ (of : Option ℕ) (which : Standard) (owner : Owner) (own : Own) where
  buffer_keeps : (call : EntryCall) (e : StreamEntry) (it : InTurn (Writer Outlet)) → entry_at own owner.number ≡ Some (entry.Stream of which e) → Keeps (Some (call, e)) (told_by call of which owner e own (stream.Buffered it)) (Some (stream.Buffered it)) (Some (left_by call of which owner e (stream.Buffered it)))
  buffer_keeps (on.Write bytes) at.Plain it held = λ so_far has. plain_write it.turn.holder bytes it.stream so_far has
  buffer_keeps on.CheckWrite at.Plain it held = λ so_far has. plain_check it.turn.holder it.stream so_far has
  buffer_keeps on.Flush at.Plain it held = λ so_far has. plain_flush it.turn.holder it.stream so_far has
  buffer_keeps on.Ready at.Pollable it held = λ so_far has. has_more it.stream.trouble it.stream.sink.taken it.stream.buffered so_far has
  buffer_keeps on.Block at.Pollable it held = λ so_far has. has_more it.stream.trouble it.stream.sink.taken it.stream.buffered so_far has
  buffer_keeps (on.PollWrite piece) (at.Polled handle) it held = λ so_far has.
      let poll = write_poll handle owner it.turn it.stream piece in
      subst (λ answer. HasW poll.stream (so_far ++ accepted_of (on.PollWrite piece) (at.Polled handle) answer)) (sym (change_told own owner.number of which handle poll.handle (poll_told told.Count poll.answer) held)) (poll_write_keeps handle owner it.turn it.stream piece so_far has)
  buffer_keeps on.PollFlush (at.Polled handle) it held = λ so_far has.
      let poll = flush_poll handle owner it.turn it.stream in
      has_more poll.stream.trouble poll.stream.sink.taken poll.stream.buffered so_far (poll_flush_keeps handle owner it.turn it.stream so_far has)
  buffer_keeps other at.Plain it held = λ so_far has. has_more it.stream.trouble it.stream.sink.taken it.stream.buffered so_far has
  buffer_keeps other (at.Polled handle) it held = λ so_far has. has_more it.stream.trouble it.stream.sink.taken it.stream.buffered so_far has
  buffer_keeps other at.Pollable it held = λ so_far has. has_more it.stream.trouble it.stream.sink.taken it.stream.buffered so_far has

  buffer_fault : (call : EntryCall) (e : StreamEntry) (it : InTurn (Writer Outlet)) → entry_at own owner.number ≡ Some (entry.Stream of which e) → FaultStep it.turn.holder (Some (call, e)) (told_by call of which owner e own (stream.Buffered it)) (Some it.stream) (buffer_in (Some (left_by call of which owner e (stream.Buffered it))))
  buffer_fault (on.Write bytes) at.Plain it held = (after_unless_held it.turn.holder it.stream (after_writer_write it.stream bytes), refl, write_tells it.turn.holder bytes it.stream)
  buffer_fault on.CheckWrite at.Plain it held = (after_unless_held it.turn.holder it.stream (after_writer_check_write it.stream), refl, check_tells it.turn.holder it.stream)
  buffer_fault on.Flush at.Plain it held = (after_unless_held it.turn.holder it.stream (after_writer_flush it.stream), refl, flush_tells it.turn.holder it.stream)
  buffer_fault on.Ready at.Pollable it held = (it.stream, refl, kept_fault it.stream.trouble)
  buffer_fault on.Block at.Pollable it held = (it.stream, refl, kept_fault it.stream.trouble)
  buffer_fault (on.PollWrite piece) (at.Polled handle) it held =
      let poll = write_poll handle owner it.turn it.stream piece in
      (poll.stream, refl, subst (λ answer. MayTellFault it.stream.trouble answer poll.stream.trouble) (sym (change_told own owner.number of which handle poll.handle (poll_told told.Count poll.answer) held)) (poll_write_fault handle owner it.turn it.stream piece))
  buffer_fault on.PollFlush (at.Polled handle) it held =
      let poll = flush_poll handle owner it.turn it.stream in
      (poll.stream, refl, subst (λ answer. MayTellFault it.stream.trouble answer poll.stream.trouble) (sym (change_told own owner.number of which handle poll.handle (poll_told is_done poll.answer) held)) (poll_flush_fault handle owner it.turn it.stream))
  buffer_fault other at.Plain it held = (it.stream, refl, kept_fault it.stream.trouble)
  buffer_fault other (at.Polled handle) it held = (it.stream, refl, kept_fault it.stream.trouble)
  buffer_fault other at.Pollable it held = (it.stream, refl, kept_fault it.stream.trouble)

  no_buffer_sends : (it : EntryCall) (e : StreamEntry) (s : OutStream) → nat_eq (sort_of s) 2 ≡ false → Keeps (Some (it, e)) (told_by it of which owner e own s) (Some s) (Some (left_by it of which owner e s))
  no_buffer_sends it e s is so_far has = unsaid (left_by it of which owner e s) (ap (λ n. nat_eq n 2) (sent_sort it of which owner e s) ∙ is) _

  sends_keep : (it : EntryCall) (e : StreamEntry) (s : OutStream) → entry_at own owner.number ≡ Some (entry.Stream of which e) → Keeps (Some (it, e)) (told_by it of which owner e own s) (Some s) (Some (left_by it of which owner e s))
  sends_keep it e (stream.Buffered w) held = buffer_keeps it e w held
  sends_keep it e (stream.Pipe pipe) held = no_buffer_sends it e (stream.Pipe pipe) refl
  sends_keep it e (stream.File out) held = no_buffer_sends it e (stream.File out) refl
  sends_keep it e (stream.Stdio out) held = no_buffer_sends it e (stream.Stdio out) refl
  sends_keep it e stream.Closed held = no_buffer_sends it e stream.Closed refl
  sends_keep it e stream.Sink held = no_buffer_sends it e stream.Sink refl

  sends_fault : (it : EntryCall) (e : StreamEntry) (s : OutStream) → entry_at own owner.number ≡ Some (entry.Stream of which e) → FaultStep (holder_in (Some s)) (Some (it, e)) (told_by it of which owner e own s) (buffer_in (Some s)) (buffer_in (Some (left_by it of which owner e s)))
  sends_fault it e (stream.Buffered w) held = buffer_fault it e w held
  sends_fault it e (stream.Pipe pipe) held = tt
  sends_fault it e (stream.File out) held = tt
  sends_fault it e (stream.Stdio out) held = tt
  sends_fault it e stream.Closed held = tt
  sends_fault it e stream.Sink held = tt

  misses_keep : (it : EntryCall) (e : StreamEntry) → Keeps (Some (it, e)) (told_by it of which owner e own stream.Closed) None None
  misses_keep (on.Write bytes) at.Plain = λ so_far none. append-nil so_far ∙ none
  misses_keep (on.PollWrite piece) (at.Polled handle) = λ so_far none. append-nil so_far ∙ none
  misses_keep on.Ready at.Pollable = λ so_far none. append-nil so_far ∙ none
  misses_keep other at.Plain = λ so_far none. append-nil so_far ∙ none
  misses_keep other (at.Polled handle) = λ so_far none. append-nil so_far ∙ none
  misses_keep other at.Pollable = λ so_far none. append-nil so_far ∙ none

turns_keep : (s : OutStream) (answer : Reply) → Keeps None answer (Some s) (Some (output_turned s).left)
turns_keep (stream.Buffered it) answer = λ so_far has. let w = it.stream in turn_keeps w.sink w.budget w.buffered w.flushing w.trouble so_far has
turns_keep (stream.Pipe pipe) answer = λ so_far has. tt
turns_keep (stream.File out) answer = λ so_far has. tt
turns_keep (stream.Stdio out) answer = λ so_far has. tt
turns_keep stream.Closed answer = λ so_far has. tt
turns_keep stream.Sink answer = λ so_far has. tt

leaves_keep : (call : Option (EntryCall × StreamEntry)) (answer : Reply) (before : Option OutStream) (who : Leaver) (s : OutStream) → Keeps call answer before (Some s) → Keeps call answer before (Some (output_without who s))
leaves_keep call answer before who (stream.Buffered it) keeps = keeps
leaves_keep call answer before who (stream.Pipe pipe) keeps = keeps
leaves_keep call answer before who (stream.File out) keeps = keeps
leaves_keep call answer before who (stream.Stdio out) keeps = keeps
leaves_keep call answer before who stream.Closed keeps = keeps
leaves_keep call answer before who stream.Sink keeps = keeps

each_keeps : HoldsOfEach Keeps
each_keeps = record {
  keeps = λ answer o. no_more o;
  declares = new_keeps;
  sends = λ it of which at e own s held. sends_keep of which at own it e s held;
  leaves = leaves_keep;
  misses = λ it of which at e own. misses_keep of which at own it e;
  turns = λ s. turns_keep s (reply.Worked (output_turned s).told);
}

abbrev Faults : Option (EntryCall × StreamEntry) → Reply → Option OutStream → Option OutStream → Type 0
Faults on answer before after = FaultStep (holder_in before) on answer (buffer_in before) (buffer_in after)

same_fault : (holder : Option Owner) (answer : Reply) (o : Option (Writer Outlet)) → FaultStep holder None answer o o
same_fault holder answer None = tt
same_fault holder answer (Some w) = (w, refl, kept_fault w.trouble)

turns_fault : (s : OutStream) (answer : Reply) → Faults None answer (Some s) (Some (output_turned s).left)
turns_fault (stream.Buffered it) answer = let w = it.stream in ((writer_turned w).left, refl, turn_fault w.sink w.budget w.buffered w.flushing w.trouble)
turns_fault (stream.Pipe pipe) answer = tt
turns_fault (stream.File out) answer = tt
turns_fault (stream.Stdio out) answer = tt
turns_fault stream.Closed answer = tt
turns_fault stream.Sink answer = tt

leaves_fault : (call : Option (EntryCall × StreamEntry)) (answer : Reply) (before : Option OutStream) (who : Leaver) (s : OutStream) → Faults call answer before (Some s) → Faults call answer before (Some (output_without who s))
leaves_fault call answer before who (stream.Buffered it) faults = faults
leaves_fault call answer before who (stream.Pipe pipe) faults = faults
leaves_fault call answer before who (stream.File out) faults = faults
leaves_fault call answer before who (stream.Stdio out) faults = faults
leaves_fault call answer before who stream.Closed faults = faults
leaves_fault call answer before who stream.Sink faults = faults

each_fault : HoldsOfEach Faults
each_fault = record {
  keeps = λ answer o. same_fault (holder_in o) answer (buffer_in o);
  declares = λ it answer. tt;
  sends = λ it of which at e own s held. sends_fault of which at own it e s held;
  leaves = leaves_fault;
  misses = λ it of which at e own. tt;
  turns = λ s. turns_fault s (reply.Worked (output_turned s).told);
}

-- ---- all steps
has_all : (name : List ℕ) (steps : List Line) (host : Host) (told : Told') (so_far : List ℕ) → Has (lookup (bytes_eq name) host.streams.outputs) so_far → Has (lookup (bytes_eq name) (host_end steps host told).streams.outputs) (so_far ++ accepted name steps host told)
has_all name [] host told so_far has = no_more (lookup (bytes_eq name) host.streams.outputs) so_far has
has_all name (step ∷ steps) host told so_far has =
    let more = accepted_by (step_call_on name step host) (step_reply step host told) in
    let now = step_holds Keeps each_keeps name step host (given_for (size_read step host) told) so_far has in
    let rest = has_all name steps (step_host step host told) (step_told step host told) (so_far ++ more) now in
    subst (Has (lookup (bytes_eq name) (host_end (step ∷ steps) host told).streams.outputs)) (append_assoc so_far more (accepted name steps (step_host step host told) (step_told step host told))) rest

faults_all : (name : List ℕ) (steps : List Line) (host : Host) (told : Told') → FaultsAreTold name steps host told
faults_all name [] host told = tt
faults_all name (step ∷ steps) host told = (step_holds Faults each_fault name step host (given_for (size_read step host) told), faults_all name steps (step_host step host told) (step_told step host told))

-- what holds of an output, where it is one that buffers
on_buffer : (P : Writer Outlet → Type 0) (s : OutStream) → ((it : InTurn (Writer Outlet)) → s ≡ stream.Buffered it → P it.stream) → OnBuffer (buffer_in (Some s)) P
on_buffer P (stream.Buffered it) holds = holds it refl
on_buffer P (stream.Pipe pipe) holds = tt
on_buffer P (stream.File out) holds = tt
on_buffer P (stream.Stdio out) holds = tt
on_buffer P stream.Closed holds = tt
on_buffer P stream.Sink holds = tt

buffer_has : (o : Option OutStream) (accepted : List ℕ) → Has o accepted → OnBuffer (buffer_in o) (λ w. HasAccepted w.trouble w.sink.taken w.buffered accepted)
buffer_has None accepted has = tt
buffer_has (Some s) accepted has = on_buffer (λ w. HasAccepted w.trouble w.sink.taken w.buffered accepted) s (λ it is. subst (λ (s : OutStream). Has (Some s) accepted) is has)

buffer_printed : (o : Option OutStream) (shown : Option (List ℕ)) → shown ≡ option_map taken_of o → OnBuffer (buffer_in o) (λ w. shown ≡ Some w.sink.taken)
buffer_printed None shown e = tt
buffer_printed (Some s) shown e = on_buffer (λ w. shown ≡ Some w.sink.taken) s (λ it is. e ∙ ap (λ (s : OutStream). Some (taken_of s)) is)

pub buffers_keep : BuffersKeep
buffers_keep name steps told = record {
  keeps = buffer_has (lookup (bytes_eq name) (host_end steps new_host told).streams.outputs) (accepted name steps new_host told) (has_all name steps new_host told [] refl);
  faults = faults_all name steps new_host told;
  printed = buffer_printed (lookup (bytes_eq name) (host_end steps new_host told).streams.outputs) _ (printed (bytes_eq name) (host_end steps new_host told).streams.outputs);
}
