use Rattle.std.proofs.Common.{rules}
use Rattle.wasi_random.proofs.KnownFacts.{batch_more}
use Rattle.wasi_random.proofs.known.draw_seeded.Goals as goal

pub batches-preserved : goal.batches-preserved
batches-preserved c = (
  batch_more _ _ _ _ _ _ _ _ c.batches.invariant.0 c.push_batch.ensures.bytes c.push_batch.ensures.left c.push_batch.ensures.len,
  search rules,
  search rules,
)
