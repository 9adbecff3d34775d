-- What a run's answer says of the script that it read and of what was written, and the program's words.
use Rattle.std.specs.Prelude.{◌≡◌, ℕ, Bool, List, Option, Some, Result, codes}
use Rattle.wasi_base.specs.Source.{Told}
use Rattle.wasi_base.specs.Sink.{with_more}
use Rattle.wasi_commands.specs.Programs.{AnswerTells, is_command_on_file}
use Rattle.wasi_commands.specs.declared.program.ProgramError.{ProgramError}
use Rattle.wasi_pipeline.specs.Completion.{Completes}
use Rattle.wasi_pipeline.specs.Conservation.{ConservesAtEachStep}
use Rattle.wasi_pipeline.specs.Grammar.{parsed, Bad, IsGood, steps_of}
use Rattle.wasi_pipeline.specs.Run.{transcript, told_after_run, CutShort, EndEarly}

-- `pipe FILE`, where FILE is any word
abbrev pub is_pipe_words : List (List ℕ) → Bool
is_pipe_words = is_command_on_file (codes "pipe")

abbrev pub usage_line : List ℕ
usage_line = codes "usage: wasi_pipe pipe FILE\n"

abbrev pub IsValid : List ℕ → Type 0
IsValid script = IsGood (parsed script)

abbrev pub IsBadAt : List ℕ → ℕ → Type 0
IsBadAt script n = parsed script ≡ Bad n

-- a run that came to its good end: the script is valid, and the output took the text of the run's replies after what it had taken before
pub record IsDone (script : List ℕ) (input : Told) (taken_before taken_after : Option (List ℕ)) (told_after : Option Told) : Type 0 where
  pub good : IsGood (parsed script)
  pub out : taken_after ≡ with_more taken_before (transcript (steps_of (parsed script)) input)
  pub stdin : told_after ≡ Some (told_after_run (steps_of (parsed script)) input)
  -- no byte is lost or doubled, at each moment of the run
  pub conserves : ConservesAtEachStep (steps_of (parsed script)) input
  -- where nothing stopped or failed and the reader was told of the end, all of the input came through all of the stages
  pub completes : Completes (steps_of (parsed script)) input

-- which answer comes of which script
abbrev pub ScriptRead : Result (Unit {0}) ProgramError → Told → Option Told → Type 0
ScriptRead = AnswerTells IsValid IsBadAt

-- a run of a script that found no memory, and one whose output failed
abbrev pub IsStopped : List ℕ → Told → Option (List ℕ) → Option (List ℕ) → Option Told → Type 0
IsStopped script = EndEarly (steps_of (parsed script))

abbrev pub IsCutOff : List ℕ → Told → Option (List ℕ) → Option (List ℕ) → Option Told → Type 0
IsCutOff script = CutShort (steps_of (parsed script))
