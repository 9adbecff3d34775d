-- Generators and what they will answer.
use Rattle.std.specs.Prelude.{ℕ, List, ◌++◌, replicate, Option, Some}
use Rattle.std.specs.Int.{w64, to_le_bytes}
use Rattle.std.specs.declared.dyn_box.DynBox.{DynBox}
use Rattle.std.specs.declared.alloc.Global.{Global}
use Rattle.rand_core.specs.Stream.{Stream}
use Rattle.rand_core.specs.Steps.{stream_of, steps_u32}
use Rattle.rand_chacha.specs.ChaCha.{next_word}
use Rattle.wasi_random.specs.Cycle.{cycle_steps}
use Rattle.wasi_random.specs.declared.generator.Generator.{Generator}
use Rattle.wasi_random.specs.declared.generator.Generator.TheVariants.{Cycle, Seeded, Caller}

-- all that a generator will answer from now on; `told` reads it off the caller's, where that tells it
abbrev pub stream_told : {X : Type 0} {V : X → Type 0} → Generator X V → (DynBox X Global V → Option Stream) → Option Stream
stream_told (Cycle cycle) told = Some (stream_of cycle_steps cycle)
stream_told (Seeded chacha) told = Some (stream_of (steps_u32 (next_word 10)) chacha)
stream_told (Caller rng) told = told rng

-- the seed of a number: its 8 bytes, the lowest first, and 24 zeros
abbrev pub seed_bytes : ℕ → List ℕ
seed_bytes n = to_le_bytes w64 n ++ replicate 24 0
