-- What a session's answer says of the script that it read, of its output and of its input.
use Rattle.std.specs.Prelude.{◌≡◌, ℕ, List, Option, Result}
use Rattle.wasi_base.specs.Source.{Told}
use Rattle.wasi_script.specs.Grammar.{parsed, Bad, IsGood, steps_of}
use Rattle.wasi_script.specs.declared.lines.Line.{Line}
use Rattle.wasi_reply.specs.Reply.{text_of_all}
use Rattle.wasi_reply.specs.Outputs.{output_lines}
use Rattle.wasi_host.specs.Host.{new_host, replies, host_end}
use Rattle.wasi_host.specs.Transcript.{outputs_of, told_after_run}
use Rattle.wasi_commands.specs.Programs.{AnswerTells, IsEndedEarly, IsCutShort}
use Rattle.wasi_commands.specs.declared.program.ProgramError.{ProgramError}

abbrev pub IsValid : List ℕ → Type 0
IsValid script = IsGood (parsed script)

abbrev pub IsBadAt : List ℕ → ℕ → Type 0
IsBadAt script n = parsed script ≡ Bad n

-- which answer comes of which script
abbrev pub ScriptRead : Result (Unit {0}) ProgramError → Told → Option Told → Type 0
ScriptRead = AnswerTells IsValid IsBadAt

-- the text of the replies to some first steps, and what closes that of a whole session
abbrev pub replies_to : Told → List Line → List ℕ
replies_to input steps = text_of_all (replies steps new_host input)

abbrev pub closing_lines : List Line → Told → List ℕ
closing_lines steps input = output_lines (outputs_of (host_end steps new_host input).streams)

-- steps of a session that found no memory, and those of one whose output failed
abbrev pub EndEarly : List Line → Told → Option (List ℕ) → Option (List ℕ) → Option Told → Type 0
EndEarly steps input = IsEndedEarly steps (replies_to input) (closing_lines steps input) (λ first. told_after_run first input)

abbrev pub CutShort : List Line → Told → Option (List ℕ) → Option (List ℕ) → Option Told → Type 0
CutShort steps input = IsCutShort steps (replies_to input) (closing_lines steps input) (λ first. told_after_run first input)

-- the same of a session's script
abbrev pub IsStopped : List ℕ → Told → Option (List ℕ) → Option (List ℕ) → Option Told → Type 0
IsStopped script = EndEarly (steps_of (parsed script))

abbrev pub IsCutOff : List ℕ → Told → Option (List ℕ) → Option (List ℕ) → Option Told → Type 0
IsCutOff script = CutShort (steps_of (parsed script))
