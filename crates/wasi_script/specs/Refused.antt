-- A script that is refused for a line.
use Rattle.std.specs.Prelude.{ℕ}
use Rattle.wasi_script.specs.declared.parse.ScriptError.{ScriptError}
use Rattle.wasi_script.specs.declared.parse.ScriptError.TheVariants.{BadLine, OutOfMemory}

-- a fact on the number of the bad line, if it is for that
abbrev pub OnBadLine : ScriptError → (ℕ → Type 0) → Type 0
OnBadLine (BadLine number) P = P number
OnBadLine OutOfMemory P = Unit {0}
