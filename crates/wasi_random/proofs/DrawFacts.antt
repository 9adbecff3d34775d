-- Draws, one after another.
use Rattle.std.proofs.Common.{ℕ, ◌+◌, ◌%◌, ◌^◌, List, [], ◌∷◌, ◌++◌, Option, Some, None, refl, add-one}
use Rattle.rand_core.specs.Stream.{Stream, next_u32}
use Rattle.rand.specs.Draw.{next_u8}
use Rattle.wasi_random.specs.Draws.{draws, Told}

-- the low byte of a word
pub told_byte : (before after : Option Stream) (w : ℕ) → Told before after next_u32 w → Told before after next_u8 (w % 2 ^ 8)
told_byte None after w h = tt
told_byte (Some stream) after w h = (rw h.0 refl, h.1)

-- no byte yet
pub told_none : (before : Option Stream) → Told before before (draws 0) []
told_none None = tt
told_none (Some stream) = (refl, refl)

-- one byte more
pub told_more : (before now after : Option Stream) (n : ℕ) (xs : List ℕ) (x : ℕ)
    → Told before now (draws n) xs → Told now after next_u8 x → Told before after (draws (n + 1)) (xs ++ x ∷ [])
told_more None now after n xs x h k = tt
told_more (Some stream) now after n xs x h k =
    let last = rw h.1 at k in
    rw (add-one n) (rw (h.0, last.0) refl, last.1)
