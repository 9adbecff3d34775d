use Rattle.std.proofs.Common.{◌≡◌, ◌+◌, ◌++◌, map, take, vec_len, vec_capacity}
use Rattle.wasi_random.proofs.KnownFacts.{low}
use Rattle.wasi_random.proofs.known.push_batch.Given as goal

-- the low bytes so far, and the room for the rest
abbrev pub invariant-loop-word : goal.invariant-loop-word
invariant-loop-word l =
    (l.bytes.items ≡ l.fn.bytes.items ++ map low (take l.word-index l.word-items))
    × (vec_len l.bytes ≡ vec_len l.fn.bytes + l.word-index) × (vec_capacity l.bytes ≡ vec_capacity l.fn.bytes)
