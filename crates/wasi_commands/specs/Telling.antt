-- The lines that tell a refusal.
use Rattle.std.specs.Prelude.{◌≡◌, ℕ, ◌<◌, ◌⊎◌, List, [], ◌∷◌, ◌++◌, length, take, map, Option, string_bytes, codes, String}
use Rattle.std.specs.Fmt.{decimal}
use Rattle.std.specs.declared.alloc.Global.{Global}
use Rattle.wasi_base.specs.Causes.{Rose}
use Rattle.wasi_base.specs.Sink.{with_more}

abbrev pub words_of : List (String Global) → List (List ℕ)
words_of words = map string_bytes words

abbrev pub read_fault_line : List ℕ
read_fault_line = codes "read fault\n"

abbrev pub too_long_line : List ℕ
too_long_line = codes "script too long\n"

abbrev pub write_fault_line : List ℕ
write_fault_line = codes "write fault\n"

abbrev pub out_of_memory_line : List ℕ
out_of_memory_line = codes "out of memory\n"

-- .. and of 5, for the line n
abbrev pub bad_script_line : ℕ → List ℕ
bad_script_line n = codes "bad script: line " ++ (decimal n ++ 10 ∷ [])

-- a sink took the whole line, or a part of it and then failed
abbrev pub Tells : List ℕ → Option (List ℕ) → Option (List ℕ) → ℕ → ℕ → Type 0
Tells line before after faults_before faults_after = (after ≡ with_more before line) ⊎ ((n : ℕ) × (n < length line) × (after ≡ with_more before (take n line)) × Rose faults_before faults_after)
