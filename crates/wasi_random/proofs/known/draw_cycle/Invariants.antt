use Rattle.std.proofs.Common.{◌≡◌, ◌≤◌, vec_len, vec_capacity}
use Rattle.wasi_random.specs.Known.{known_bytes}
use Rattle.wasi_random.specs.declared.known.KnownGenerator.TheVariants.{Cycle}
use Rattle.wasi_random.proofs.known.draw_cycle.Given as goal

-- what was drawn so far, and the room for the rest
abbrev pub invariant-loop-i : goal.invariant-loop-i
invariant-loop-i l =
    ((l.bytes.items, Cycle l.rng) ≡ known_bytes l._i (Cycle l.fn.rng)) × (vec_len l.bytes ≡ l._i) × (l.count ≤ vec_capacity l.bytes)
