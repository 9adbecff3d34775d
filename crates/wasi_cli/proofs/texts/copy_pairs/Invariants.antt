use Rattle.std.proofs.Common.{◌≡◌, ◌++◌, ◌≤◌, drop, length, vec_len, vec_capacity}
use Rattle.wasi_cli.specs.Texts.{text_pairs}
use Rattle.wasi_cli.proofs.texts.copy_pairs.Given as goal

-- the copies and what is left are all the pairs, and there is room for the rest
abbrev pub invariant-loop-pair : goal.invariant-loop-pair
invariant-loop-pair l =
    (text_pairs l.copies.items ++ text_pairs (drop l.pair-index l.pairs) ≡ text_pairs l.pairs)
    × (vec_len l.copies ≡ l.pair-index) × (length l.pairs ≤ vec_capacity l.copies)
