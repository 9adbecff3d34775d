-- What holds of the words on flags.
use Rattle.std.specs.Prelude.{◌≡◌, ◌*◌, ◌^◌, ℕ, List, Some, None, if◌then◌else◌, nat_lt, length, map, option_map, slice_get}
use Rattle.std.specs.Int.RustNames.{bit_and}
use Rattle.bitflags.specs.Sets.{Row, known_bits}
use Rattle.wasi_flags.specs.Flags.{doubling, named_bits}

-- the names of a table are those that it was made of
abbrev pub KeepsNames : Type 0
KeepsNames = (bits : ℕ) (names : List (List ℕ)) → map (λ row. row.0) (doubling bits names) ≡ names

-- the flag at a place, from 0 on, has the first value times 2 to that place, and there are as many as names
abbrev pub EachDoubles : Type 0
EachDoubles = (bits place : ℕ) (names : List (List ℕ)) → option_map (λ row. row.1) (slice_get (doubling bits names) place) ≡ (if nat_lt place (length names) then Some (bits * 2 ^ place) else None)

-- bits that all have a name stay, and what stays has bits with a name alone
abbrev pub NamedBitsStay : Type 0
NamedBitsStay =
    (table : List Row) (bits : ℕ) →
    (bit_and bits (known_bits table) ≡ bits → named_bits table bits ≡ bits)
    × (bit_and (named_bits table bits) (known_bits table) ≡ named_bits table bits)
