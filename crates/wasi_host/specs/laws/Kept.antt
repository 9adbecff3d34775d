-- An output keeps what it took: a write that is done adds all its bytes, any other a first part, and no other call adds.
use Rattle.std.proofs.Common.{◌≡◌, ℕ, Bool, true, false, List, [], ◌∷◌, ◌++◌, length, take, Option, Result, Ok, Err, refl, ap, sym, arith, append-nil, true≢false}
use Rattle.std.specs.Prelude.{nat_lt, if◌then◌else◌, min}
use Rattle.std.proofs.lemmas.Grind.{common_steps}
use Rattle.wasi_base.specs.declared.io_kind.IoKind.{IoKind}
use Rattle.wasi_base.specs.declared.io_kind.IoKind.TheVariants.{BrokenPipe}
use Rattle.wasi_base.specs.declared.sink.WriteStop.{WriteStop}
use Rattle.wasi_base.specs.StreamError.{stream_error_of}
use Rattle.wasi_base.specs.declared.stream_error.StreamError.TheVariants as failure
use Rattle.wasi_base.specs.declared.trap_text.TrapText.TheVariants.{WriteBeyondCapacity, WriteExceededBudget}
use Rattle.wasi_streams.specs.Outputs.{Outlet, sent as went, all_written, after_all_written, part_written, taken_with, write_answer, poll_all_answer, poll_part_answer}
use Rattle.wasi_streams.specs.MemoryPipes.{OutPipe, with_bytes}
use Rattle.wasi_script.specs.declared.lines.Standard.{Standard}
use Rattle.wasi_script.specs.declared.lines.EntryCall.{EntryCall}
use Rattle.wasi_script.specs.declared.lines.EntryCall.TheVariants as on
use Rattle.wasi_reply.specs.declared.reply.Told.{Told}
use Rattle.wasi_reply.specs.declared.reply.Told.TheVariants as told
use Rattle.wasi_host.specs.declared.entry.StreamEntry.{StreamEntry}
use Rattle.wasi_host.specs.declared.entry.StreamEntry.TheVariants as at
use Rattle.wasi_host.specs.declared.stream.OutStream.{OutStream}
use Rattle.wasi_host.specs.declared.stream.OutStream.TheVariants as stream
use Rattle.wasi_host.specs.OutStreams.{taken_of, after_output_check_write, after_output_write, after_output_flush, after_output_poll_write, after_output_block, output_write, output_poll_write}
use Rattle.wasi_host.specs.Deeds.{Own, act, apart}
use Rattle.wasi_cli.specs.declared.stdout_handle.StdoutHandle.{StdoutHandle}
use Rattle.wasi_host.specs.Calls.{Owner, sent, polled_write, polled_flush, result_told, poll_told, is_done}
use Rattle.wasi_host.specs.Promises.{Took, is_direct, Keeps}

-- ---- a pipe
take_within : (room : ℕ) (bytes : List ℕ) → take room bytes ≡ take (min (length bytes) room) bytes
take_within room bytes = grind (arith, common_steps)

pipe_write : (pipe : OutPipe) (bytes : List ℕ) (past : Bool) → (is_direct (stream.Pipe (if past then pipe else with_bytes pipe bytes)) ≡ true) × Took (result_told is_done (if past then Err (failure.Trap WriteBeyondCapacity) else Ok tt)) bytes pipe.contents (taken_of (stream.Pipe (if past then pipe else with_bytes pipe bytes)))
pipe_write pipe bytes true = (refl, refl)
pipe_write pipe bytes false = (refl, refl)

-- ---- a chain of writes
take_whole : (bytes : List ℕ) → take (length bytes) bytes ≡ bytes
take_whole bytes = grind (arith, common_steps)

error_took : (kind : IoKind) (count : ℕ) (bytes before : List ℕ) → Took (result_told is_done (Err (stream_error_of kind))) bytes before (before ++ take count bytes)
error_took BrokenPipe count bytes before = (count, refl)
error_took kind count bytes before = (count, refl)

file_took : (stop : Result (Unit {0}) WriteStop) (bytes before : List ℕ) → Took (result_told is_done (write_answer failure.LastOperationFailed stop)) bytes before (before ++ went bytes stop)
file_took (Ok done) bytes before = ap (λ part. before ++ part) (take_whole bytes)
file_took (Err stop) bytes before = (stop.taken, refl)

file_poll_took : (stop : Result (Unit {0}) WriteStop) (bytes before : List ℕ) → Took (poll_told told.Count (poll_all_answer (length bytes) stop)) bytes before (before ++ went bytes stop)
file_poll_took (Ok done) bytes before = refl
file_poll_took (Err stop) bytes before = (stop.taken, refl)

stdio_took : (stop : Result (Unit {0}) WriteStop) (bytes before : List ℕ) → Took (result_told is_done (write_answer stream_error_of stop)) bytes before (before ++ went bytes stop)
stdio_took (Ok done) bytes before = ap (λ part. before ++ part) (take_whole bytes)
stdio_took (Err stop) bytes before = error_took stop.kind stop.taken bytes before

part_took : (part : Result ℕ IoKind) (piece before : List ℕ) → Took (poll_told told.Count (poll_part_answer part)) piece before (taken_with before piece part)
part_took (Ok count) piece before = refl
part_took (Err kind) piece before = (0, sym (append-nil before))

-- ---- a write, a polled write and a flush of a declared output
record KeptBy (bytes : List ℕ) (s left : OutStream) (answer : Told) : Type 0 where
  direct : is_direct left ≡ true
  took : Took answer bytes (taken_of s) (taken_of left)

stdio_write : (out : Outlet) (bytes : List ℕ) (past : Bool) → KeptBy bytes (stream.Stdio out) (stream.Stdio (if past then out else after_all_written out bytes)) (result_told is_done (if past then Err (failure.Trap WriteExceededBudget) else write_answer stream_error_of (all_written out bytes)))
stdio_write out bytes true = record { direct = refl; took = refl }
stdio_write out bytes false = record { direct = refl; took = stdio_took (all_written out bytes) bytes out.taken }

write_keeps : (bytes : List ℕ) (s : OutStream) → is_direct s ≡ true → KeptBy bytes s (after_output_write s bytes) (result_told is_done (output_write s bytes))
write_keeps bytes (stream.Pipe pipe) is = let kept = pipe_write pipe bytes (nat_lt pipe.room (length bytes)) in record { direct = kept.0; took = kept.1 }
write_keeps bytes (stream.File out) is = record { direct = refl; took = file_took (all_written out bytes) bytes out.taken }
write_keeps bytes (stream.Stdio out) is = stdio_write out bytes (nat_lt 65536 (length bytes))
write_keeps bytes stream.Closed is = absurd (true≢false (sym is))
write_keeps bytes stream.Sink is = absurd (true≢false (sym is))
write_keeps bytes (stream.Buffered writer) is = absurd (true≢false (sym is))

stdio_poll_write : (piece : List ℕ) (out : Outlet) → KeptBy piece (stream.Stdio out) (after_output_poll_write (stream.Stdio out) piece) (poll_told told.Count (output_poll_write (stream.Stdio out) piece))
stdio_poll_write [] out = record { direct = refl; took = sym (append-nil out.taken) }
stdio_poll_write (b ∷ piece) out = record { direct = refl; took = part_took (part_written out (b ∷ piece)) (b ∷ piece) out.taken }

poll_write_keeps : (piece : List ℕ) (s : OutStream) → is_direct s ≡ true → KeptBy piece s (after_output_poll_write s piece) (poll_told told.Count (output_poll_write s piece))
poll_write_keeps piece (stream.Pipe pipe) is = record { direct = refl; took = ap (λ part. pipe.contents ++ part) (take_within pipe.room piece) }
poll_write_keeps piece (stream.File out) is = record { direct = refl; took = file_poll_took (all_written out piece) piece out.taken }
poll_write_keeps piece (stream.Stdio out) is = stdio_poll_write piece out
poll_write_keeps piece stream.Closed is = absurd (true≢false (sym is))
poll_write_keeps piece stream.Sink is = absurd (true≢false (sym is))
poll_write_keeps piece (stream.Buffered writer) is = absurd (true≢false (sym is))

flush_direct : (s : OutStream) → is_direct s ≡ true → is_direct (after_output_flush s) ≡ true
flush_direct (stream.File out) is = refl
flush_direct (stream.Stdio out) is = refl
flush_direct (stream.Buffered writer) is = absurd (true≢false (sym is))
flush_direct other is = is

flush_took : (s : OutStream) → is_direct s ≡ true → taken_of (after_output_flush s) ≡ taken_of s
flush_took (stream.File out) is = refl
flush_took (stream.Stdio out) is = refl
flush_took (stream.Buffered writer) is = absurd (true≢false (sym is))
flush_took other is = refl

check_keeps : (s : OutStream) → is_direct s ≡ true → (is_direct (after_output_check_write s) ≡ true) × (taken_of (after_output_check_write s) ≡ taken_of s)
check_keeps (stream.Buffered writer) is = absurd (true≢false (sym is))
check_keeps other is = (is, refl)

block_keeps : (owner : Owner) (s : OutStream) → is_direct s ≡ true → (is_direct (after_output_block s owner) ≡ true) × (taken_of (after_output_block s owner) ≡ taken_of s)
block_keeps owner (stream.Buffered it) is = absurd (true≢false (sym is))
block_keeps owner other is = (is, refl)

polled_write_keeps : (bytes : List ℕ) (of : Option ℕ) (to : Standard) (owner : Owner) (handle : StdoutHandle) (s : OutStream) (own : Own) → is_direct s ≡ true → let done = polled_write of to owner handle s bytes in Keeps (on.PollWrite bytes) (at.Polled handle) s done.left (act (apart done.deed) own).reply
polled_write_keeps bytes of to owner handle (stream.Pipe pipe) own is = let kept = poll_write_keeps bytes (stream.Pipe pipe) is in record { direct = kept.direct; took = (poll_told told.Count (output_poll_write (stream.Pipe pipe) bytes), refl, kept.took) }
polled_write_keeps bytes of to owner handle (stream.File out) own is = let kept = poll_write_keeps bytes (stream.File out) is in record { direct = kept.direct; took = (poll_told told.Count (output_poll_write (stream.File out) bytes), refl, kept.took) }
polled_write_keeps bytes of to owner handle (stream.Stdio out) own is = let kept = poll_write_keeps bytes (stream.Stdio out) is in record { direct = kept.direct; took = (poll_told told.Count (output_poll_write (stream.Stdio out) bytes), refl, kept.took) }
polled_write_keeps bytes of to owner handle (stream.Buffered it) own is = absurd (true≢false (sym is))
polled_write_keeps bytes of to owner handle stream.Closed own is = absurd (true≢false (sym is))
polled_write_keeps bytes of to owner handle stream.Sink own is = absurd (true≢false (sym is))

polled_flush_keeps : (of : Option ℕ) (to : Standard) (owner : Owner) (handle : StdoutHandle) (s : OutStream) (own : Own) → is_direct s ≡ true → let done = polled_flush of to owner handle s in Keeps on.PollFlush (at.Polled handle) s done.left (act (apart done.deed) own).reply
polled_flush_keeps of to owner handle (stream.Pipe pipe) own is = record { direct = is; took = refl }
polled_flush_keeps of to owner handle (stream.File out) own is = record { direct = refl; took = refl }
polled_flush_keeps of to owner handle (stream.Stdio out) own is = record { direct = refl; took = refl }
polled_flush_keeps of to owner handle (stream.Buffered it) own is = absurd (true≢false (sym is))
polled_flush_keeps of to owner handle stream.Closed own is = absurd (true≢false (sym is))
polled_flush_keeps of to owner handle stream.Sink own is = absurd (true≢false (sym is))

pub outputs_keep : (it : EntryCall) (of : Option ℕ) (to : Standard) (owner : Owner) (entry : StreamEntry) (s : OutStream) (own : Own) → is_direct s ≡ true → let done = sent it of to owner entry s in Keeps it entry s done.left (act (apart done.deed) own).reply
outputs_keep (on.Write bytes) of to owner at.Plain s own is = let kept = write_keeps bytes s is in record { direct = kept.direct; took = (result_told is_done (output_write s bytes), refl, kept.took) }
outputs_keep (on.PollWrite bytes) of to owner (at.Polled handle) s own is = polled_write_keeps bytes of to owner handle s own is
outputs_keep on.Flush of to owner at.Plain s own is = record { direct = flush_direct s is; took = flush_took s is }
outputs_keep on.PollFlush of to owner (at.Polled handle) s own is = polled_flush_keeps of to owner handle s own is
outputs_keep on.CheckWrite of to owner at.Plain s own is = let kept = check_keeps s is in record { direct = kept.0; took = kept.1 }
outputs_keep on.Ready of to owner at.Pollable s own is = record { direct = is; took = refl }
outputs_keep on.Block of to owner at.Pollable s own is = let kept = block_keeps owner s is in record { direct = kept.0; took = kept.1 }
outputs_keep other of to owner at.Plain s own is = record { direct = is; took = refl }
outputs_keep other of to owner (at.Polled handle) s own is = record { direct = is; took = refl }
outputs_keep other of to owner at.Pollable s own is = record { direct = is; took = refl }
