-- What the run of a generated script reports.
use Rattle.std.specs.Prelude.{ℕ, List, [], ◌∷◌, ◌++◌, length, codes}
use Rattle.std.specs.Fmt.{decimal}
use Rattle.wasi_base.specs.Source.{Told}
use Rattle.wasi_script.specs.declared.lines.Line.{Line}
use Rattle.wasi_script.specs.Grammar.{parsed, steps_of}
use Rattle.wasi_script.specs.Generated.{generated_script, generated_input}
use Rattle.wasi_host.specs.Transcript.{transcript, told_after_run}

abbrev pub count_line : List ℕ → ℕ → List ℕ
count_line label count = label ++ (decimal count ++ 10 ∷ [])

abbrev pub count_lines : ℕ → ℕ → ℕ → List ℕ
count_lines steps printed left = count_line (codes "steps ") steps ++ (count_line (codes "printed ") printed ++ count_line (codes "left ") left)

-- the steps, the bytes of the transcript, and the bytes of the input that no delivery read
abbrev pub counts_of : List Line → Told → List ℕ
counts_of steps input = count_lines (length steps) (length (transcript steps input)) (length (told_after_run steps input).left)

abbrev pub report : ℕ → ℕ → List ℕ
report number lines = counts_of (steps_of (parsed (generated_script number lines))) (record { left = generated_input number lines; plan = [] })
