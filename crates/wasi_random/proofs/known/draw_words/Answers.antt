use Rattle.std.proofs.Common.{rules, ◌<◌, length}
use Rattle.wasi_random.proofs.KnownFacts.{word_more}
use Rattle.wasi_random.proofs.known.draw_words.Goals as goal

pub loop-i-preserved : goal.loop-i-preserved
loop-i-preserved c =
    let inside : c.loop-i.i < length c.loop-i.words = rw c.loop-i.invariant.1 (search rules) in
    (word_more _ _ _ _ _ _ inside c.loop-i.invariant.0 c.next_word.ensures, search rules)
