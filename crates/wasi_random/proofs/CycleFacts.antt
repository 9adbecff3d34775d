-- A cycle gives its bytes again and again.
use Rattle.std.proofs.Common.{◌≡◌, ℕ, zero, suc, ◌+◌, ◌%◌, ◌<◌, List, [], ◌∷◌, ◌++◌, length, get_or, refl, ap, ◌⊎◌, inl, inr, arith, add-one}
use Rattle.std.proofs.lemmas.Grind.{common_steps}
use Rattle.std.proofs.Math.Nat.{suc-mod, mod-eq_of_lt}
use Rattle.std.proofs.Math.ListN.{get_or-append}
use Rattle.std.proofs.Math.Seq.{get_or-append_seam}
use Rattle.wasi_random.specs.Cycle.{Cycle, next_bytes, IsAgainAndAgain}

-- the cycle at a place
abbrev at : List ℕ → ℕ → Cycle
at bytes place = record { bytes = bytes; place = place }

-- as many bytes as were asked for
pub length-next_bytes : (n : ℕ) (cycle : Cycle) → length (next_bytes n cycle).0 ≡ n
length-next_bytes zero cycle = refl
length-next_bytes (suc n) cycle = let before : length (next_bytes n cycle).0 ≡ n = length-next_bytes n cycle in grind (arith, common_steps, before)

-- a place after n places, in a cycle
pub place_after : (p n l : ℕ) → ((p + n) % l + 1) % l ≡ (p + suc n) % l
place_after p n l =
    let one : p + suc n ≡ suc (p + n) = omega arith in
    rw (one, suc-mod (p + n) l, add-one) refl

-- where a cycle stands after n bytes
pub next_bytes-left : (n : ℕ) (bytes : List ℕ) (place : ℕ) → place < length bytes
    → (next_bytes n (at bytes place)).1 ≡ at bytes ((place + n) % length bytes)
next_bytes-left zero bytes place h =
    let same : place ≡ (place + 0) % length bytes = grind (arith, mod-eq_of_lt h) in
    ap (λ (p : ℕ). at bytes p) same
next_bytes-left (suc n) bytes place h =
    rw (next_bytes-left n bytes place h, place_after place n (length bytes)) refl

-- one byte more
one_more : (front bytes : List ℕ) (left : Cycle) (place n : ℕ) → length front ≡ n
    → ((i : ℕ) → i < n → get_or front i 0 ≡ get_or bytes ((place + i) % length bytes) 0)
    → left ≡ at bytes ((place + n) % length bytes)
    → (i : ℕ) → i < suc n
    → get_or (front ++ get_or left.bytes left.place 0 ∷ []) i 0 ≡ get_or bytes ((place + i) % length bytes) 0
one_more front bytes left place n long before stands i below =
    let split : (i < n) ⊎ (i ≡ n) = grind arith in
    elim split [
      | inl lower ↦ let inside : i < length front = omega (arith, long, lower) in
          rw (get_or-append front _ 0 i inside) (before i lower)
      | inr last ↦ rw (last, stands) (rw long at (get_or-append_seam front (get_or bytes ((place + n) % length bytes) 0) [] 0))
    ]

-- each byte is the one of its place
pub next_bytes-again : (n : ℕ) (bytes : List ℕ) (place : ℕ) → place < length bytes → (i : ℕ) → i < n
    → get_or (next_bytes n (at bytes place)).0 i 0 ≡ get_or bytes ((place + i) % length bytes) 0
next_bytes-again zero bytes place h i below = absurd (omega (arith, below))
next_bytes-again (suc n) bytes place h i below =
    one_more _ bytes _ place n (length-next_bytes n (at bytes place)) (next_bytes-again n bytes place h)
    (next_bytes-left n bytes place h) i below

-- what a buffer that was filled holds
pub again_when_filled : (n : ℕ) (cycle after : Cycle) (given : List ℕ) → cycle.place < length cycle.bytes
    → (given, after) ≡ next_bytes n cycle → IsAgainAndAgain cycle given
again_when_filled n cycle after given h filled =
    let same : given ≡ (next_bytes n cycle).0 = ap (λ (p : List ℕ × Cycle). p.0) filled in
    λ i below.
    let short : i < n = rw (same, length-next_bytes n cycle) at below in
    rw same (next_bytes-again n cycle.bytes cycle.place h i short)
