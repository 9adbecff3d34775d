-- A generator that gives a list of bytes again and again.
use Rattle.std.specs.Prelude.{◌≡◌, ℕ, zero, suc, ◌+◌, ◌*◌, ◌%◌, ◌^◌, List, [], ◌∷◌, ◌++◌, length, slice_index, EachIndex}
use Rattle.std.specs.Int.{w32, from_be_bytes}
use Rattle.rand_core.specs.Steps.{Steps}

-- the bytes, and the place among them of the byte that comes next
pub record Cycle : Type 0 where
  pub bytes : List ℕ
  pub place : ℕ

-- the byte that comes, and what is left
abbrev pub next_byte : Cycle → ℕ × Cycle
next_byte cycle =
    (slice_index cycle.bytes cycle.place, record cycle { place = (cycle.place + 1) % length cycle.bytes })

-- the next n bytes
abbrev pub next_bytes : ℕ → Cycle → List ℕ × Cycle
next_bytes zero cycle = ([], cycle)
next_bytes (suc n) cycle =
    let before = next_bytes n cycle in
    let last = next_byte before.1 in
    (before.0 ++ last.0 ∷ [], last.1)

-- four bytes, the first the highest
abbrev pub next_word : Cycle → ℕ × Cycle
next_word cycle =
    let first = next_byte cycle in
    let second = next_byte first.1 in
    let third = next_byte second.1 in
    let fourth = next_byte third.1 in
    (from_be_bytes w32 (first.0 ∷ second.0 ∷ third.0 ∷ fourth.0 ∷ []), fourth.1)

-- two words, the first the high half
abbrev pub next_double : Cycle → ℕ × Cycle
next_double cycle =
    let high = next_word cycle in
    let low = next_word high.1 in
    (high.0 * 2 ^ 32 + low.0, low.1)

abbrev pub cycle_steps : Steps Cycle
cycle_steps = record { next_u32 = next_word; next_u64 = next_double; fill_bytes = next_bytes }

-- the bytes from the cycle's place on, and after the last one the first
abbrev pub IsAgainAndAgain : Cycle → List ℕ → Type 0
IsAgainAndAgain cycle given =
    EachIndex given (λ i. slice_index given i ≡ slice_index cycle.bytes ((cycle.place + i) % length cycle.bytes))
