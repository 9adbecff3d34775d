-- The steps of a script, line by line.
use Rattle.std.proofs.Common.{◌≡◌, ℕ, ◌+◌, Bool, true, false, List, [], ◌∷◌, ◌++◌, refl, ap, sym, ◌∙◌, append_assoc, cond}
use Rattle.wasi_pipeline.specs.Bounds.{HaveBounds}
use Rattle.wasi_pipeline.specs.Steps.{HasBound}
use Rattle.wasi_pipeline.specs.declared.line.Line.{Line}
use Rattle.wasi_pipeline.specs.declared.declarations.Declared.{Declared}
use Rattle.wasi_pipeline.specs.declared.reading.Reading.{Reading}
use Rattle.wasi_pipeline.specs.declared.reading.Reading.TheVariants.{Note, Step, Invalid}
use Rattle.wasi_pipeline.specs.Grammar.{Parsed, Steps, Bad, parsed_from, parsed_line, with_step, declared_after, reading_after, if_standing, may_stand}

-- steps that were read, and then what the lines that are left stand for
abbrev pub after_steps : List Line → Parsed → Parsed
after_steps steps (Steps rest) = Steps (steps ++ rest)
after_steps steps (Bad number) = Bad number

pub after_none : (parsed : Parsed) → after_steps [] parsed ≡ parsed
after_none (Steps rest) = refl
after_none (Bad number) = refl

-- the whole is what was read and then what these lines stand for
abbrev pub IsReadTo : Parsed → List Line → Declared → ℕ → List (List ℕ) → Type 0
IsReadTo whole steps so_far number lines = whole ≡ after_steps steps (parsed_from lines so_far number)

after_one : (steps : List Line) (step : Line) (rest : Parsed) → after_steps steps (with_step step rest) ≡ after_steps (steps ++ step ∷ []) rest
after_one steps step (Steps rest) = ap Steps (sym (append_assoc steps (step ∷ []) rest))
after_one steps step (Bad number) = refl

-- one more step
pub read_step : (whole : Parsed) (steps : List Line) (so_far : Declared) (number : ℕ) (text : List ℕ) (texts : List (List ℕ)) (step : Line)
    → IsReadTo whole steps so_far number (text ∷ texts) → reading_after so_far text ≡ Step step → IsReadTo whole (steps ++ step ∷ []) (declared_after so_far step) (number + 1) texts
read_step whole steps so_far number text texts step is read =
    is ∙ ap (λ reading. after_steps steps (parsed_line reading so_far number (parsed_from texts))) read ∙ after_one steps step (parsed_from texts (declared_after so_far step) (number + 1))

-- a step that was read may stand
pub read_step_stands : (so_far : Declared) (reading : Reading) (step : Line) → if_standing so_far reading ≡ Step step → may_stand so_far step ≡ true
read_step_stands so_far Note step is = absurd (cc)
read_step_stands so_far (Step read) step is = by_test (may_stand so_far read) refl is
  where
    by_test : (stands : Bool) → may_stand so_far read ≡ stands → cond stands (Step read) Invalid ≡ Step step → may_stand so_far step ≡ true
    by_test true stands is = let same : read ≡ step = cc in rw (← same) stands
    by_test false stands is = absurd (cc)
read_step_stands so_far Invalid step is = absurd (cc)

pub one_more_bound : (steps : List Line) (step : Line) → HaveBounds steps → HasBound step → HaveBounds (steps ++ step ∷ [])
one_more_bound [] step bounds bound = (bound, tt)
one_more_bound (first ∷ steps) step bounds bound = (bounds.0, one_more_bound steps step bounds.1 bound)
