-- A run of steps over a source that tells: its replies, and what it leaves.
use Rattle.std.specs.Prelude.{ℕ, zero, suc, List, [], ◌∷◌, Option}
use Rattle.wasi_base.specs.Source.{Told, Given, gives, told_after}
use Rattle.wasi_base.specs.Source as given
use Rattle.wasi_commands.specs.Programs.{IsEndedEarly, IsCutShort}
use Rattle.wasi_reply.specs.declared.reply.Reply.{Reply}
use Rattle.wasi_reply.specs.Reply.{text_of_all}
use Rattle.wasi_pipeline.specs.Steps.{Pipe, Stepped, new_pipe, stepped, size_read}
use Rattle.wasi_pipeline.specs.declared.line.Line.{Line}

-- what a read of a size gives and leaves; for 0 there is no read
abbrev pub given_for : ℕ → Told → Given
given_for zero told = given.End
given_for (suc n) told = gives told (suc n)

abbrev pub told_for : ℕ → Told → Told
told_for zero told = told
told_for (suc n) told = told_after told (suc n)

abbrev pub stepped_with : Line → Pipe → Told → Stepped
stepped_with step pipe told = stepped step (given_for (size_read step pipe) told) pipe

abbrev pub step_told : Line → Pipe → Told → Told
step_told step pipe told = told_for (size_read step pipe) told

-- the replies to all steps, and what is left in the end
abbrev pub replies : List Line → Pipe → Told → List Reply
replies [] pipe told = []
replies (step ∷ steps) pipe told = (stepped_with step pipe told).reply ∷ replies steps (stepped_with step pipe told).pipe (step_told step pipe told)

abbrev pub pipe_end : List Line → Pipe → Told → Pipe
pipe_end [] pipe told = pipe
pipe_end (step ∷ steps) pipe told = pipe_end steps (stepped_with step pipe told).pipe (step_told step pipe told)

abbrev pub told_end : List Line → Pipe → Told → Told
told_end [] pipe told = told
told_end (step ∷ steps) pipe told = told_end steps (stepped_with step pipe told).pipe (step_told step pipe told)

-- the text of a whole run, and what is told after it
abbrev pub transcript : List Line → Told → List ℕ
transcript steps told = text_of_all (replies steps new_pipe told)

abbrev pub told_after_run : List Line → Told → Told
told_after_run steps told = told_end steps new_pipe told

-- a run that found no memory, and one whose output failed
abbrev pub EndEarly : List Line → Told → Option (List ℕ) → Option (List ℕ) → Option Told → Type 0
EndEarly steps input = IsEndedEarly steps (λ first. transcript first input) [] (λ first. told_after_run first input)

abbrev pub CutShort : List Line → Told → Option (List ℕ) → Option (List ℕ) → Option Told → Type 0
CutShort steps input = IsCutShort steps (λ first. transcript first input) [] (λ first. told_after_run first input)
