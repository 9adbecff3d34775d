-- What the answer of a run says of its script, for any program: which scripts are valid, and which are bad at a line, is the program's own.
use Rattle.std.specs.Prelude.{◌≡◌, ℕ, ◌+◌, ◌≤◌, ◌<◌, Bool, false, List, [], ◌∷◌, ◌++◌, length, take, drop, Option, Some, Result, Ok, Err}
use Rattle.std.specs.Str.{bytes_eq}
use Rattle.wasi_base.specs.Source.{Told}
use Rattle.wasi_base.specs.Sink.{with_more}
use Rattle.wasi_commands.specs.Reading.{IsReadWhole, IsReadPast, IsReadInPart}
use Rattle.wasi_commands.specs.declared.program.RunError.{RunError}
use Rattle.wasi_commands.specs.declared.program.RunError.TheVariants as run
use Rattle.wasi_commands.specs.declared.program.ProgramError.{ProgramError}
use Rattle.wasi_commands.specs.declared.program.ProgramError.TheVariants.{ReadFault, TooLong, BadScript, WriteFault, OutOfMemory}

-- which scripts are valid, and which have this first line that is not valid
abbrev pub Valid : Type 1
Valid = List ℕ → Type 0

abbrev pub BadAt : Type 1
BadAt = List ℕ → ℕ → Type 0

-- which answer of a run comes of which script
abbrev pub RunTells : Valid → BadAt → Result (Unit {0}) RunError → List ℕ → Type 0
RunTells valid bad (Ok _) script = valid script
RunTells valid bad (Err (run.BadScript n)) script = bad script n
RunTells valid bad (Err run.WriteFault) script = valid script
RunTells valid bad (Err run.OutOfMemory) script = Unit {0}

-- the same with the reading of the script
abbrev pub AnswerTells : Valid → BadAt → Result (Unit {0}) ProgramError → Told → Option Told → Type 0
AnswerTells valid bad (Ok _) script now = IsReadWhole script now × valid script.left
AnswerTells valid bad (Err ReadFault) script now = IsReadInPart script now
AnswerTells valid bad (Err TooLong) script now = IsReadPast script now
AnswerTells valid bad (Err (BadScript n)) script now = IsReadWhole script now × bad script.left n
AnswerTells valid bad (Err WriteFault) script now = IsReadWhole script now × valid script.left
AnswerTells valid bad (Err OutOfMemory) script now = Unit {0}

-- the answers before the first step
abbrev pub OnUnstarted : ProgramError → Type 0 → Type 0
OnUnstarted ReadFault P = P
OnUnstarted TooLong P = P
OnUnstarted (BadScript n) P = P
OnUnstarted WriteFault P = Unit {0}
OnUnstarted OutOfMemory P = Unit {0}

abbrev pub OnReadFault : ProgramError → Type 0 → Type 0
OnReadFault ReadFault P = P
OnReadFault _ P = Unit {0}

abbrev pub OnWriteFault : ProgramError → Type 0 → Type 0
OnWriteFault WriteFault P = P
OnWriteFault _ P = Unit {0}

abbrev pub OnNoMemory : ProgramError → Type 0 → Type 0
OnNoMemory OutOfMemory P = P
OnNoMemory _ P = Unit {0}

-- what closes a run, where no step is left
abbrev pub closed_by : {Step : Type 0} → List Step → List ℕ → List ℕ
closed_by [] closing = closing
closed_by (step ∷ steps) closing = []

-- what so many first steps tell: their replies, and what closes the run where these are all steps
abbrev pub told_by_first : {Step : Type 0} → List Step → (List Step → List ℕ) → List ℕ → ℕ → List ℕ
told_by_first steps replies_to closing count = replies_to (take count steps) ++ closed_by (drop count steps) closing

-- A run of steps that ended early: so many first steps were done, and the input is left as they leave it. The output took, of
-- what these steps tell, the replies to so many steps whole, that is to all of them or all but the last, and a part of what comes next.
pub record IsEndedEarly {Step : Type 0} (steps : List Step) (replies_to : List Step → List ℕ) (closing : List ℕ) (left_by : List Step → Told) (taken_before taken_after : Option (List ℕ)) (told_after : Option Told) : Type 0 where
  pub done : ℕ
  pub within : done ≤ length steps
  pub stdin : told_after ≡ Some (left_by (take done steps))
  pub whole : ℕ
  pub least : whole ≤ done
  pub most : done ≤ whole + 1
  pub part : List ℕ
  pub rest : List ℕ
  pub next : (replies_to (take whole steps) ++ part) ++ rest ≡ told_by_first steps replies_to closing done
  pub out : taken_after ≡ with_more taken_before (replies_to (take whole steps) ++ part)

-- the same, where the output failed: something of what the steps tell was not taken
pub record IsCutShort {Step : Type 0} (steps : List Step) (replies_to : List Step → List ℕ) (closing : List ℕ) (left_by : List Step → Told) (taken_before taken_after : Option (List ℕ)) (told_after : Option Told) : Type 0 where
  pub early : IsEndedEarly steps replies_to closing left_by taken_before taken_after told_after
  pub short : 0 < length early.rest

-- the words of a command on a file, as `run FILE`, where FILE is any word
abbrev pub is_command_on_file : List ℕ → List (List ℕ) → Bool
is_command_on_file command [] = false
is_command_on_file command (first ∷ []) = false
is_command_on_file command (first ∷ file ∷ []) = bytes_eq first command
is_command_on_file command (first ∷ file ∷ more ∷ rest) = false
