use Rattle.std.proofs.Common.{◌≡◌, ◌≤◌, ◌-◌, vec_len, vec_capacity}
use Rattle.wasi_random.specs.Known.{known_bytes}
use Rattle.wasi_random.specs.declared.known.KnownGenerator.TheVariants.{Seeded}
use Rattle.wasi_random.proofs.known.draw_seeded.Given as goal

-- what was drawn so far, and the room for the rest
abbrev pub invariant-batches : goal.invariant-batches
invariant-batches l =
    ((l.bytes.items, Seeded l.rng) ≡ known_bytes (vec_len l.bytes) (Seeded l.fn.rng))
    × (vec_len l.bytes ≤ l.count) × (l.count ≤ vec_capacity l.bytes)

abbrev pub decreases-batches : goal.decreases-batches
decreases-batches l = l.count - vec_len l.bytes
