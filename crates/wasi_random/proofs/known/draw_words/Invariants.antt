use Rattle.std.proofs.Common.{◌≡◌, length, take}
use Rattle.wasi_random.specs.Known.{next_words}
use Rattle.wasi_random.proofs.known.draw_words.Given as goal

-- the words so far
abbrev pub invariant-loop-i : goal.invariant-loop-i
invariant-loop-i l = ((take l.i l.words, l.rng) ≡ next_words l.i l.fn.rng) × (length l.words ≡ 64)
