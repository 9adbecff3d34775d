-- Draws from a stream of random words.
use Rattle.std.specs.Prelude.{◌≡◌, ℕ, zero, suc, List, [], ◌∷◌, ◌++◌, Option, Some, IfSome}
use Rattle.rand_core.specs.Stream.{Stream}
use Rattle.rand.specs.Draw.{next_u8}

-- n bytes, each the low byte of one 32-bit word, and the stream that is left
abbrev pub draws : ℕ → Stream → List ℕ × Stream
draws zero stream = ([], stream)
draws (suc n) stream =
    let before = draws n stream in
    let last = next_u8 before.1 in
    (before.0 ++ last.0 ∷ [], last.1)

-- where a stream was told before, a draw gave this answer, and what it leaves is told after it
abbrev pub Told : {A : Type 0} → Option Stream → Option Stream → (Stream → A × Stream) → A → Type 0
Told before after draw answer =
    IfSome before (λ stream. (answer ≡ (draw stream).0) × (after ≡ Some (draw stream).1))
