-- The bounds of the links that steps declare.
use Rattle.std.specs.Prelude.{ℕ, List, [], ◌∷◌}
use Rattle.wasi_pipeline.specs.declared.line.Line.{Line}
use Rattle.wasi_pipeline.specs.declared.reading.Reading.{Reading}
use Rattle.wasi_pipeline.specs.declared.reading.Reading.TheVariants.{Note, Step, Invalid}
use Rattle.wasi_pipeline.specs.declared.parse.ScriptError.{ScriptError}
use Rattle.wasi_pipeline.specs.declared.parse.ScriptError.TheVariants.{BadLine, OutOfMemory}
use Rattle.wasi_pipeline.specs.Steps.{HasBound}

abbrev pub ReadsBound : Reading → Type 0
ReadsBound Note = Unit {0}
ReadsBound (Step step) = HasBound step
ReadsBound Invalid = Unit {0}

abbrev pub HaveBounds : List Line → Type 0
HaveBounds [] = Unit {0}
HaveBounds (step ∷ steps) = HasBound step × HaveBounds steps

-- a fact on the number of the bad line, if a script is refused for one
abbrev pub OnBadLine : ScriptError → (ℕ → Type 0) → Type 0
OnBadLine (BadLine number) P = P number
OnBadLine OutOfMemory P = Unit {0}
