-- Each step of a script may stand after those before it.
use Rattle.std.specs.Prelude.{◌≡◌, ℕ, ◌+◌, Bool, true, false, cond, List, [], ◌∷◌}
use Rattle.std.proofs.Common.{refl}
use Rattle.wasi_script.specs.declared.lines.Line.{Line}
use Rattle.wasi_script.specs.declared.forms.Reading.{Reading}
use Rattle.wasi_script.specs.declared.forms.Reading.TheVariants.{Note, Step, Invalid}
use Rattle.wasi_script.specs.Grammar.{Names, Parsed, Steps, Bad, parsed_from, parsed_line, with_step, names_after, reading_of, if_standing, AllStand, may_stand, steps_of, parsed, lines_of, no_names}

after_step : (names : Names) (step : Line) (rest : Parsed) → may_stand names step ≡ true → AllStand (names_after names step) (steps_of rest) → AllStand names (steps_of (with_step step rest))
after_step names step (Steps steps) is others = (is, others)
after_step names step (Bad number) is others = tt

after_line : (reading : Reading) (names : Names) (number : ℕ) (rest : Names → ℕ → Parsed) → ((names : Names) (number : ℕ) → AllStand names (steps_of (rest names number))) → AllStand names (steps_of (parsed_line (if_standing names reading) names number rest))
after_line Note names number rest others = others names (number + 1)
after_line (Step step) names number rest others = by_test (may_stand names step) refl
  where
    by_test : (stands : Bool) → may_stand names step ≡ stands → AllStand names (steps_of (parsed_line (cond stands (Step step) Invalid) names number rest))
    by_test true is = after_step names step (rest (names_after names step) (number + 1)) is (others (names_after names step) (number + 1))
    by_test false is = tt
after_line Invalid names number rest others = tt

-- from any names and any number on
pub stand_from : (names : Names) (number : ℕ) (texts : List (List ℕ)) → AllStand names (steps_of (parsed_from texts names number))
stand_from names number [] = tt
stand_from names number (text ∷ texts) = after_line (reading_of text) names number (parsed_from texts) (λ names number. stand_from names number texts)

pub steps_stand : (bytes : List ℕ) → AllStand no_names (steps_of (parsed bytes))
steps_stand bytes = stand_from no_names 1 (lines_of bytes)
