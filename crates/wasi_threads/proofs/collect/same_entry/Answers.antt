use Rattle.std.proofs.Common.{refl, ◌∙◌, sym, ap}
use Rattle.wasi_threads.specs.declared.entry.Entry.{Entry}
use Rattle.wasi_threads.proofs.PartFacts.{entry_same}
use Rattle.wasi_threads.proofs.collect.same_entry.Goals as goal

pub returns : goal.returns
returns c = (
  (λ t. entry_same _ _ c.if-a-b.false c.if-a-b-2.false (c.if-not-same_event.ensures.0 refl) (c.if-not-same_answer.ensures.0 refl) (sym c.as_slice.ensures ∙ (c.same_bytes.ensures.0 t ∙ c.as_slice-2.ensures)) (c.if-not-same_wait.ensures.0 refl)),
  (λ e. c.same_bytes.ensures.1 (c.as_slice.ensures ∙ (ap (λ (e : Entry). e.bytes) e ∙ sym c.as_slice-2.ensures))),
)
