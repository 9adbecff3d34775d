use Rattle.std.proofs.Common.{rules}
use Rattle.wasi_random.proofs.KnownFacts.{byte_more, batch_bytes, batch_left}
use Rattle.wasi_random.proofs.known.push_batch.Goals as goal

pub loop-word-preserved : goal.loop-word-preserved
loop-word-preserved c = (
  byte_more _ _ _ _ _ _ (search rules) c.loop-word.invariant.0 c.low_byte.ensures c.push_reserved.ensures.items,
  search rules,
  search rules,
)

pub returns-clause-bytes : goal.returns-clause-bytes
returns-clause-bytes c =
    batch_bytes c.args.count _ c.args.rng.now c.draw_words-words.new.rng _ _ _
    (search rules) c.loop-word.invariant.0 c.draw_words-words.ensures

pub returns-clause-left : goal.returns-clause-left
returns-clause-left c = batch_left c.args.count c.args.rng.now c.draw_words-words.new.rng _ c.draw_words-words.ensures
