-- Bytes written into a guest's memory.
use Rattle.std.specs.Prelude.{ℕ, ◌+◌, nat_le, Bool, List, ◌++◌, length, take, drop, if◌then◌else◌}

-- whether the memory has room for these bytes from an address on
abbrev pub fits : ℕ → List ℕ → List ℕ → Bool
fits address bytes memory = nat_le (address + length bytes) (length memory)

-- the memory with these bytes from an address on, where they fit
abbrev pub with_bytes_at : ℕ → List ℕ → List ℕ → List ℕ
with_bytes_at address bytes memory =
    if fits address bytes memory then take address memory ++ (bytes ++ drop (address + length bytes) memory) else memory
