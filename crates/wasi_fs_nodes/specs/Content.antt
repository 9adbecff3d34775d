-- The bytes of a file after a change.
use Rattle.std.specs.Prelude.{ℕ, ◌+◌, ◌-◌, List, ◌++◌, length, take, drop, replicate}

-- cut to a size, or filled with zeros
abbrev pub resized : List ℕ → ℕ → List ℕ
resized bytes size = take size bytes ++ replicate (size - length bytes) 0

-- with bytes over those from a place on, and zeros in a gap before them
abbrev pub written : List ℕ → ℕ → List ℕ → List ℕ
written bytes place more = resized bytes place ++ (more ++ drop (place + length more) bytes)
