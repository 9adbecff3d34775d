use Rattle.std.proofs.Common.{◌≡◌, ◌≤◌, vec_len, vec_capacity}
use Rattle.wasi_random.specs.Draws.{Told, draws}
use Rattle.wasi_random.specs.Generators.{stream_told}
use Rattle.wasi_random.proofs.generator.Generator.next_bytes.Given as goal

-- what was drawn so far, and the room for the rest
abbrev pub invariant-loop-i : goal.invariant-loop-i
invariant-loop-i g l =
    Told (stream_told l.fn.self (λ rng. (goal.HostRng-dyn g (rng.vtable, rng.value)).told rng.value))
    (stream_told l.self (λ rng. (goal.HostRng-dyn g (rng.vtable, rng.value)).told rng.value)) (draws l._i) l.bytes.items
    × (vec_len l.bytes ≡ l._i) × (l.count ≤ vec_capacity l.bytes)
