-- The lines that tell what the declared outputs took.
use Rattle.std.specs.Prelude.{◌≢◌, ℕ, List, [], ◌∷◌, ◌++◌, codes}
use Rattle.std.specs.List.{AllByRecursion, flat_map}
use Rattle.hex.specs.Hex.{IsBytes}
use Rattle.wasi_reply.specs.Field.{Field, worded}

-- an output's name, and the bytes that it took
abbrev pub output_line : List ℕ × List ℕ → List ℕ
output_line output = codes "output " ++ (worded (output.0, Field.Hex output.1 ∷ []) ++ 10 ∷ [])

abbrev pub output_lines : List (List ℕ × List ℕ) → List ℕ
output_lines outputs = flat_map output_line outputs

-- its name holds no space, and its bytes are bytes
abbrev pub IsOutput : List ℕ × List ℕ → Type 0
IsOutput output = AllByRecursion (λ byte. byte ≢ 32) output.0 × IsBytes output.1
