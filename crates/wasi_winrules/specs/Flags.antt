-- Words made of flags.
use Rattle.std.specs.Prelude.{ℕ, Bool, true, false, not, ◌==◌, bit_and}
use Rattle.std.specs.Int.{w32, bit_not}

-- the word has a bit of the flag
abbrev pub has_flag : ℕ → ℕ → Bool
has_flag word flag = not (bit_and word flag == 0)

-- the flag where the test holds, and no bit else
abbrev pub flag_if : Bool → ℕ → ℕ
flag_if true flag = flag
flag_if false flag = 0

-- the word without the flag's bits
abbrev pub without : ℕ → ℕ → ℕ
without word flag = bit_and word (bit_not w32 flag)
