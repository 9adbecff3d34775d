use Rattle.std.specs.Prelude.{◌≡◌, ◌∷◌, ◌*◌, ◌^◌, [], ℕ, zero, suc, List, Some, None, if◌then◌else◌, length, map, option_map, slice_get}
use Rattle.std.specs.Int.RustNames.{bit_and}
use Rattle.std.specs.Int.Bits.{and_self}
use Rattle.std.proofs.Common.{refl, ap, sym, ◌∙◌, rules, arith, nat_lt}
use Rattle.std.proofs.lemmas.Nat.{and_assoc}
use Rattle.std.proofs.Math.Nat.{mul_assoc, mul_comm, pow-succ'}
use Rattle.bitflags.specs.Sets.{Row, known_bits}
use Rattle.wasi_flags.specs.Flags.{doubling, named_bits}

pub keeps_names : (bits : ℕ) (names : List (List ℕ)) → map (λ (row : Row). row.0) (doubling bits names) ≡ names
keeps_names bits [] = refl
keeps_names bits (name ∷ names) = ap (λ rest. name ∷ rest) (keeps_names (2 * bits) names)

doubled : (bits place : ℕ) → 2 * bits * 2 ^ place ≡ bits * 2 ^ suc place
doubled bits place =
    ap (λ n. n * 2 ^ place) (mul_comm 2 bits) ∙ mul_assoc bits 2 (2 ^ place)
    ∙ ap (λ n. bits * n) (sym (pow-succ' 2 place))

pub each_doubles : (bits place : ℕ) (names : List (List ℕ)) → option_map (λ (row : Row). row.1) (slice_get (doubling bits names) place) ≡ (if nat_lt place (length names) then Some (bits * 2 ^ place) else None)
each_doubles bits place [] = search (rules, arith)
each_doubles bits zero (name ∷ names) = search (rules, arith)
each_doubles bits (suc place) (name ∷ names) =
    each_doubles (2 * bits) place names
    ∙ ap (λ value. if nat_lt place (length names) then Some value else None) (doubled bits place)
    ∙ ap (λ there. if there then Some (bits * 2 ^ suc place) else None) (let e : nat_lt place (length names) ≡ nat_lt (suc place) (suc (length names)) = search (rules, arith) in e)

pub named_stay :
    (table : List Row) (bits : ℕ) →
    (bit_and bits (known_bits table) ≡ bits → named_bits table bits ≡ bits)
    × (bit_and (named_bits table bits) (known_bits table) ≡ named_bits table bits)
named_stay table bits = ((λ h. h), and_assoc (known_bits table) bits (known_bits table) ∙ ap (bit_and bits) (and_self (known_bits table)))
