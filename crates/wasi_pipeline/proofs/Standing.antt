-- Each step of a script may stand after those before it.
use Rattle.std.specs.Prelude.{◌≡◌, ℕ, ◌+◌, Bool, true, false, cond, List, [], ◌∷◌}
use Rattle.std.proofs.Common.{refl}
use Rattle.wasi_pipeline.specs.declared.line.Line.{Line}
use Rattle.wasi_pipeline.specs.declared.reading.Reading.{Reading}
use Rattle.wasi_pipeline.specs.declared.reading.Reading.TheVariants.{Note, Step, Invalid}
use Rattle.wasi_words.specs.Fields.{lines_of}
use Rattle.wasi_pipeline.specs.declared.declarations.Declared.{Declared}
use Rattle.wasi_pipeline.specs.Grammar.{Parsed, Steps, Bad, parsed_from, parsed_line, with_step, declared_after, reading_of, if_standing, AllStand, may_stand, steps_of, parsed, nothing_declared}

after_step : (so_far : Declared) (step : Line) (rest : Parsed) → may_stand so_far step ≡ true → AllStand (declared_after so_far step) (steps_of rest) → AllStand so_far (steps_of (with_step step rest))
after_step so_far step (Steps steps) is others = (is, others)
after_step so_far step (Bad number) is others = tt

after_line : (reading : Reading) (so_far : Declared) (number : ℕ) (rest : Declared → ℕ → Parsed) → ((so_far : Declared) (number : ℕ) → AllStand so_far (steps_of (rest so_far number))) → AllStand so_far (steps_of (parsed_line (if_standing so_far reading) so_far number rest))
after_line Note so_far number rest others = others so_far (number + 1)
after_line (Step step) so_far number rest others = by_test (may_stand so_far step) refl
  where
    by_test : (stands : Bool) → may_stand so_far step ≡ stands → AllStand so_far (steps_of (parsed_line (cond stands (Step step) Invalid) so_far number rest))
    by_test true is = after_step so_far step (rest (declared_after so_far step) (number + 1)) is (others (declared_after so_far step) (number + 1))
    by_test false is = tt
after_line Invalid so_far number rest others = tt

-- from any so_far and any number on
pub stand_from : (so_far : Declared) (number : ℕ) (texts : List (List ℕ)) → AllStand so_far (steps_of (parsed_from texts so_far number))
stand_from so_far number [] = tt
stand_from so_far number (text ∷ texts) = after_line (reading_of text) so_far number (parsed_from texts) (λ so_far number. stand_from so_far number texts)

pub steps_stand : (bytes : List ℕ) → AllStand nothing_declared (steps_of (parsed bytes))
steps_stand bytes = stand_from nothing_declared 1 (lines_of bytes)
