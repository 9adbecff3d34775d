-- Generators whose draws are all known, and what they draw.
use Rattle.std.specs.Prelude.{◌≡◌, ℕ, zero, suc, ◌%◌, ◌^◌, List, [], ◌∷◌, ◌++◌}
use Rattle.rand_core.specs.Stream.{Stream, next_u64}
use Rattle.rand_core.specs.Steps.{stream_of, steps_u32, u64_via_u32}
use Rattle.rand_chacha.specs.ChaCha.{ChaCha, next_word, of_seed}
use Rattle.wasi_random.specs.Cycle.{cycle_steps, next_double}
use Rattle.wasi_random.specs.Cycle as cycles
use Rattle.wasi_random.specs.Draws.{draws}
use Rattle.wasi_random.specs.Generators.{seed_bytes}
pub use Rattle.wasi_random.specs.declared.known.KnownGenerator.{KnownGenerator}
use Rattle.wasi_random.specs.declared.known.KnownGenerator.TheVariants.{Cycle, Seeded}

-- the generator of a seed, and that of bytes which it gives again and again
abbrev pub of_number : ℕ → KnownGenerator
of_number seed = Seeded (of_seed (seed_bytes seed))

abbrev pub of_bytes : List ℕ → KnownGenerator
of_bytes bytes = Cycle (record { bytes = bytes; place = 0 })

-- the next 32 bits, and the generator after them: of a cycle four bytes, the first the highest
abbrev pub known_u32 : KnownGenerator → ℕ × KnownGenerator
known_u32 (Cycle cycle) = let drawn = cycles.next_word cycle in (drawn.0, Cycle drawn.1)
known_u32 (Seeded chacha) = let drawn = next_word 10 chacha in (drawn.0, Seeded drawn.1)

-- the next 64 bits: of a cycle the high half first, of ChaCha the low half
abbrev pub known_u64 : KnownGenerator → ℕ × KnownGenerator
known_u64 (Cycle cycle) = let drawn = next_double cycle in (drawn.0, Cycle drawn.1)
known_u64 (Seeded chacha) = let drawn = u64_via_u32 (next_word 10) chacha in (drawn.0, Seeded drawn.1)

-- the low byte of the next 32 bits
abbrev pub known_byte : KnownGenerator → ℕ × KnownGenerator
known_byte it = let drawn = known_u32 it in (drawn.0 % 2 ^ 8, drawn.1)

-- n such bytes
abbrev pub known_bytes : ℕ → KnownGenerator → List ℕ × KnownGenerator
known_bytes zero it = ([], it)
known_bytes (suc n) it =
    let before = known_bytes n it in
    let last = known_byte before.1 in
    (before.0 ++ last.0 ∷ [], last.1)

-- n words of ChaCha, and the generator after them
abbrev pub next_words : ℕ → ChaCha → List ℕ × ChaCha
next_words zero chacha = ([], chacha)
next_words (suc n) chacha =
    let before = next_words n chacha in
    let last = next_word 10 before.1 in
    (before.0 ++ last.0 ∷ [], last.1)

-- all that it will answer from now on, as `rand_core` says it
abbrev pub known_stream : KnownGenerator → Stream
known_stream (Cycle cycle) = stream_of cycle_steps cycle
known_stream (Seeded chacha) = stream_of (steps_u32 (next_word 10)) chacha

-- Each draw is the one that `rand_core` says of that stream, and leaves the rest of it.
pub record DrawsAreOfTheStream : Type 0 where
  pub bytes : (n : ℕ) (it : KnownGenerator) → draws n (known_stream it) ≡ ((known_bytes n it).0, known_stream (known_bytes n it).1)
  pub number : (it : KnownGenerator) → next_u64 (known_stream it) ≡ ((known_u64 it).0, known_stream (known_u64 it).1)
