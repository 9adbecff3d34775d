-- Which pipeline scripts are valid, and the steps that they stand for.
use Rattle.std.specs.Prelude.{◌≡◌, ℕ, ◌+◌, Bool, true, false, cond, not, ◌&&◌, nat_eq, nat_le, nat_lt, List, [], ◌∷◌, Option, Some, None, codes}
use Rattle.std.specs.Str.{bytes_eq}
use Rattle.wasi_words.specs.Fields.{Form, lines_of, meaning_by, number_between, with_first, with_last, words_of}
use Rattle.wasi_pipeline.specs.declared.kind.StageKind.{StageKind}
use Rattle.wasi_pipeline.specs.declared.kind.StageKind.TheVariants.{Copy, Upper, Hex, Squeeze}
use Rattle.wasi_pipeline.specs.declared.stage.Turn.TheVariants.{Pump, Stop}
use Rattle.wasi_pipeline.specs.declared.line.Line.{Line}
use Rattle.wasi_pipeline.specs.declared.line.Line.TheVariants as line
use Rattle.wasi_pipeline.specs.declared.declarations.Declared.{Declared}
use Rattle.wasi_pipeline.specs.declared.reading.Reading.{Reading}
use Rattle.wasi_pipeline.specs.declared.reading.Reading.TheVariants.{Note, Step, Invalid}

-- a link's bound, a count of bytes, and a stage's number
abbrev pub bound_of : List ℕ → Option ℕ
bound_of = number_between 2 65536

abbrev pub count_of : List ℕ → Option ℕ
count_of = number_between 1 65536

abbrev pub stage_of : List ℕ → Option ℕ
stage_of = number_between 1 15

abbrev pub kind_of : List ℕ → Option StageKind
kind_of word =
    cond (bytes_eq word (codes "copy")) (Some Copy)
    (cond (bytes_eq word (codes "upper")) (Some Upper)
    (cond (bytes_eq word (codes "hex")) (Some Hex)
    (cond (bytes_eq word (codes "squeeze")) (Some Squeeze) None)))

abbrev pub forms : List (Form Line)
forms =
    (codes "link", with_last bound_of line.Link)
    ∷ (codes "stage", with_first kind_of (λ kind. with_last bound_of (line.Stage kind)))
    ∷ (codes "feed", with_last count_of line.Feed)
    ∷ (codes "pump", with_first stage_of (λ stage. with_last count_of (λ most. line.Turn stage (Pump most))))
    ∷ (codes "drain", with_last count_of line.Drain)
    ∷ (codes "stop", with_last stage_of (λ stage. line.Turn stage Stop))
    ∷ []

abbrev pub step_or_invalid : Option Line → Reading
step_or_invalid None = Invalid
step_or_invalid (Some step) = Step step

-- what a line of text is by itself: a note where it is empty or begins with `#`
abbrev pub reading_of : List ℕ → Reading
reading_of [] = Note
reading_of (byte ∷ bytes) = cond (nat_eq byte 35) Note (step_or_invalid (meaning_by forms (words_of (byte ∷ bytes))))

-- what the lines so far declared: link 0, how many stages, and whether a step followed them
abbrev pub nothing_declared : Declared
nothing_declared = record { linked = false; stages = 0; begun = false }

-- a step may stand after these lines
abbrev pub may_stand : Declared → Line → Bool
may_stand so_far (line.Link bound) = not so_far.linked
may_stand so_far (line.Stage kind bound) = so_far.linked && (not so_far.begun && nat_lt so_far.stages 15)
may_stand so_far (line.Feed most) = so_far.linked
may_stand so_far (line.Turn stage turn) = so_far.linked && (nat_le 1 stage && nat_le stage so_far.stages)
may_stand so_far (line.Drain most) = so_far.linked

abbrev pub declared_after : Declared → Line → Declared
declared_after so_far (line.Link bound) = record so_far { linked = true }
declared_after so_far (line.Stage kind bound) = record so_far { stages = so_far.stages + 1 }
declared_after so_far (line.Feed most) = record so_far { begun = true }
declared_after so_far (line.Turn stage turn) = record so_far { begun = true }
declared_after so_far (line.Drain most) = record so_far { begun = true }

-- what a line of text is after these lines
abbrev pub if_standing : Declared → Reading → Reading
if_standing so_far Note = Note
if_standing so_far (Step step) = cond (may_stand so_far step) (Step step) Invalid
if_standing so_far Invalid = Invalid

abbrev pub reading_after : Declared → List ℕ → Reading
reading_after so_far text = if_standing so_far (reading_of text)

-- a script: its steps, or the number of its first line that is not valid
pub data Parsed : Type 0 where
  Steps : List Line → Parsed
  Bad : ℕ → Parsed

abbrev pub with_step : Line → Parsed → Parsed
with_step step (Steps steps) = Steps (step ∷ steps)
with_step step (Bad number) = Bad number

-- a line, and then the lines after it, by what is declared and the number there
abbrev pub parsed_line : Reading → Declared → ℕ → (Declared → ℕ → Parsed) → Parsed
parsed_line Note so_far number rest = rest so_far (number + 1)
parsed_line (Step step) so_far number rest = with_step step (rest (declared_after so_far step) (number + 1))
parsed_line Invalid so_far number rest = Bad number

abbrev pub parsed_from : List (List ℕ) → Declared → ℕ → Parsed
parsed_from [] so_far number = Steps []
parsed_from (text ∷ texts) so_far number = parsed_line (reading_after so_far text) so_far number (parsed_from texts)

-- the whole script, from its bytes
abbrev pub parsed : List ℕ → Parsed
parsed bytes = parsed_from (lines_of bytes) nothing_declared 1

abbrev pub steps_of : Parsed → List Line
steps_of (Steps steps) = steps
steps_of (Bad number) = []

abbrev pub IsGood : Parsed → Type 0
IsGood (Steps steps) = Unit {0}
IsGood (Bad number) = ⊥

-- each step may stand after those before it
abbrev pub AllStand : Declared → List Line → Type 0
AllStand so_far [] = Unit {0}
AllStand so_far (step ∷ steps) = (may_stand so_far step ≡ true) × AllStand (declared_after so_far step) steps
