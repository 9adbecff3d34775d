-- The steps of a script, line by line.
use Rattle.std.proofs.Common.{◌≡◌, ℕ, ◌+◌, Bool, true, false, List, [], ◌∷◌, ◌++◌, refl, ap, sym, ◌∙◌, append_assoc, cond, subst}
use Rattle.wasi_script.specs.laws.Standing.{steps_stand}
use Rattle.wasi_script.specs.declared.lines.Line.{Line}
use Rattle.wasi_script.specs.declared.forms.Reading.{Reading}
use Rattle.wasi_script.specs.declared.forms.Reading.TheVariants.{Note, Step, Invalid}
use Rattle.wasi_script.specs.Grammar.{Names, Parsed, Steps, Bad, parsed_from, parsed_line, with_step, names_after, reading_after, if_standing, may_stand, parsed, AllStand, no_names, steps_of}

-- steps that were read, and then what the lines that are left stand for
abbrev pub after_steps : List Line → Parsed → Parsed
after_steps steps (Steps rest) = Steps (steps ++ rest)
after_steps steps (Bad number) = Bad number

pub after_none : (parsed : Parsed) → after_steps [] parsed ≡ parsed
after_none (Steps rest) = refl
after_none (Bad number) = refl

-- the whole is what was read and then what these lines stand for
abbrev pub IsReadTo : Parsed → List Line → Names → ℕ → List (List ℕ) → Type 0
IsReadTo whole steps names number lines = whole ≡ after_steps steps (parsed_from lines names number)

after_one : (steps : List Line) (step : Line) (rest : Parsed) → after_steps steps (with_step step rest) ≡ after_steps (steps ++ step ∷ []) rest
after_one steps step (Steps rest) = ap Steps (sym (append_assoc steps (step ∷ []) rest))
after_one steps step (Bad number) = refl

-- one more step
pub read_step : (whole : Parsed) (steps : List Line) (names : Names) (number : ℕ) (text : List ℕ) (texts : List (List ℕ)) (step : Line)
    → IsReadTo whole steps names number (text ∷ texts) → reading_after names text ≡ Step step → IsReadTo whole (steps ++ step ∷ []) (names_after names step) (number + 1) texts
read_step whole steps names number text texts step is read =
    is ∙ ap (λ reading. after_steps steps (parsed_line reading names number (parsed_from texts))) read ∙ after_one steps step (parsed_from texts (names_after names step) (number + 1))

-- with no lines left, the steps that were read are the script's
read_all : (whole : Parsed) (steps : List Line) (names : Names) (number : ℕ) (lines : List (List ℕ)) → IsReadTo whole steps names number lines → lines ≡ [] → whole ≡ Steps steps
read_all whole steps names number lines is none = is ∙ rw none (ap Steps (append_nil steps))
  where
    append_nil : (steps : List Line) → steps ++ [] ≡ steps
    append_nil [] = refl
    append_nil (step ∷ steps) = ap (λ rest. step ∷ rest) (append_nil steps)

pub read_steps_stand : (bytes : List ℕ) (steps : List Line) (names : Names) (number : ℕ) (lines : List (List ℕ)) → IsReadTo (parsed bytes) steps names number lines → lines ≡ [] → AllStand no_names steps
read_steps_stand bytes steps names number lines is none = subst (λ (steps : List Line). AllStand no_names steps) (ap steps_of (read_all (parsed bytes) steps names number lines is none)) (steps_stand bytes)

-- a step that was read may stand
pub read_step_stands : (names : Names) (reading : Reading) (step : Line) → if_standing names reading ≡ Step step → may_stand names step ≡ true
read_step_stands names Note step is = absurd (cc)
read_step_stands names (Step read) step is = by_test (may_stand names read) refl is
  where
    by_test : (stands : Bool) → may_stand names read ≡ stands → cond stands (Step read) Invalid ≡ Step step → may_stand names step ≡ true
    by_test true stands is = let same : read ≡ step = cc in rw (← same) stands
    by_test false stands is = absurd (cc)
read_step_stands names Invalid step is = absurd (cc)
