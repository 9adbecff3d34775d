-- What a turn of a writer task over a sink in memory leaves.
use Rattle.std.proofs.Common.{◌≡◌, ℕ, ◌++◌, length, take, drop, Some, Result, Ok, Err, refl, ap, ◌∙◌}
use Rattle.wasi_base.specs.declared.io_kind.IoKind.{IoKind}
use Rattle.wasi_base.specs.Memory.{SinkMemory}
use Rattle.wasi_base.specs.Sink.{written, after_write, flushed, after_flush}
use Rattle.wasi_streams.specs.declared.writer_turn.WriterTurn.{WriterTurn}
use Rattle.wasi_streams.specs.declared.writer_turn.WriterTurn.TheVariants as turn
use Rattle.wasi_streams.specs.Outputs.{Took, taken_with}
use Rattle.wasi_streams.specs.Writer.{Writer, Work, Nothing_left, Writing, Flushing, work_of, written_left, flushed_left, WritesOnce, FlushesSink}
use Rattle.wasi_host.specs.Sources.{told_writer}
use Rattle.wasi_host.specs.Tasks.{turned_by, writer_turned}

some_is : {A : Type 0} (x y : A) → Some x ≡ Some y → x ≡ y
some_is x y e = cc

module _ (w w' : Writer SinkMemory) (answer : WriterTurn) where
  writes_left : WritesOnce (λ (s : SinkMemory). Some s.taken) (λ (s : SinkMemory). Some s.limits) w answer w' → told_writer w' ≡ (turned_by Writing (told_writer w)).left
  writes_left h =
      let told = h.told.told w.sink.limits refl in
      by h.part h.took h.after_is told.0 (some_is w'.sink.limits (after_write w.sink.limits (length w.buffered)) told.1)
    where
      by : (part : Result ℕ IoKind) → Took (Some w.sink.taken) w.buffered part (Some w'.sink.taken) → w' ≡ written_left part w w'.sink → part ≡ written w.sink.limits (length w.buffered) → w'.sink.limits ≡ after_write w.sink.limits (length w.buffered) → told_writer w' ≡ (turned_by Writing (told_writer w)).left
      by (Ok n) took after same limits =
          let taken = some_is w'.sink.taken (w.sink.taken ++ take n w.buffered) took.2 in
          ap told_writer after
          ∙ (λ i. record { sink = record { taken = taken i; limits = limits i }; budget = w.budget; buffered = drop n w.buffered; flushing = w.flushing; trouble = w.trouble })
          ∙ ap (λ part. written_left part (told_writer w) (record { taken = taken_with w.sink.taken w.buffered part; limits = after_write w.sink.limits (length w.buffered) })) same
      by (Err kind) took after same limits =
          let taken = some_is w'.sink.taken w.sink.taken took in
          ap told_writer after
          ∙ (λ i. written_left (Err kind) (told_writer w) (record { taken = taken i; limits = limits i }))
          ∙ ap (λ part. written_left part (told_writer w) (record { taken = taken_with w.sink.taken w.buffered part; limits = after_write w.sink.limits (length w.buffered) })) same

  flushes_left : FlushesSink (λ (s : SinkMemory). Some s.taken) (λ (s : SinkMemory). Some s.limits) w answer w' → told_writer w' ≡ (turned_by Flushing (told_writer w)).left
  flushes_left h =
      let told = h.told.told w.sink.limits refl in
      by h.flush h.after_is told.0 (some_is w'.sink.taken w.sink.taken h.same) (some_is w'.sink.limits (after_flush w.sink.limits) told.1)
    where
      by : (flush : Result (Unit {0}) IoKind) → w' ≡ flushed_left flush w w'.sink → flush ≡ flushed w.sink.limits → w'.sink.taken ≡ w.sink.taken → w'.sink.limits ≡ after_flush w.sink.limits → told_writer w' ≡ (turned_by Flushing (told_writer w)).left
      by (Ok done) after same taken limits =
          ap told_writer after
          ∙ (λ i. flushed_left (Ok done) (told_writer w) (record { taken = taken i; limits = limits i }))
          ∙ ap (λ flush. flushed_left flush (told_writer w) (record { taken = w.sink.taken; limits = after_flush w.sink.limits })) same
      by (Err kind) after same taken limits =
          ap told_writer after
          ∙ (λ i. flushed_left (Err kind) (told_writer w) (record { taken = taken i; limits = limits i }))
          ∙ ap (λ flush. flushed_left flush (told_writer w) (record { taken = w.sink.taken; limits = after_flush w.sink.limits })) same

  pub turn_left : (work_of w ≡ Nothing_left → (answer ≡ turn.Idle) × (w' ≡ w)) → (work_of w ≡ Writing → WritesOnce (λ (s : SinkMemory). Some s.taken) (λ (s : SinkMemory). Some s.limits) w answer w') → (work_of w ≡ Flushing → FlushesSink (λ (s : SinkMemory). Some s.taken) (λ (s : SinkMemory). Some s.limits) w answer w') → told_writer w' ≡ (writer_turned (told_writer w)).left
  turn_left idle writes flushes = by (work_of w) refl
    where
      by : (work : Work) → work_of w ≡ work → told_writer w' ≡ (turned_by work (told_writer w)).left
      by Nothing_left is = ap told_writer (idle is).1
      by Writing is = writes_left (writes is)
      by Flushing is = flushes_left (flushes is)
