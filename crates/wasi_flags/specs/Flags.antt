-- Flags by name: their bits go from 0 up.
use Rattle.std.specs.Prelude.{ℕ, List, [], ◌∷◌, ◌*◌}
use Rattle.std.specs.Int.RustNames.{bit_and}
use Rattle.bitflags.specs.Sets.{Row, known_bits}

-- the flags of these names, the first one of this value and each later one of twice the value before
abbrev pub doubling : ℕ → List (List ℕ) → List Row
doubling bits [] = []
doubling bits (name ∷ names) = (name, bits) ∷ doubling (2 * bits) names

-- the bits that have a name
abbrev pub named_bits : List Row → ℕ → ℕ
named_bits table bits = bit_and bits (known_bits table)
