-- The words of the command line.
use Rattle.std.specs.Prelude.{ℕ, Bool, List, [], ◌∷◌, Option, Some, None, cond, codes}
use Rattle.std.specs.Option.{option_and_then, option_map}
use Rattle.std.specs.Str.{bytes_eq}
use Rattle.wasi_words.specs.Fields.{number_of, number_between}
use Rattle.wasi_commands.specs.Programs.{is_command_on_file}

-- `run FILE`, where FILE is any word
abbrev pub is_run_words : List (List ℕ) → Bool
is_run_words = is_command_on_file (codes "run")

-- the number and the lines of `gen NUMBER LINES`, which are at most 100000
abbrev pub numbers_in : List ℕ → List ℕ → Option (ℕ × ℕ)
numbers_in number lines = option_and_then (λ number. option_map (λ lines. (number, lines)) (number_between 0 100000 lines)) (number_of number)

abbrev pub generated_in : List (List ℕ) → Option (ℕ × ℕ)
generated_in [] = None
generated_in (first ∷ []) = None
generated_in (first ∷ number ∷ []) = None
generated_in (first ∷ number ∷ lines ∷ []) = cond (bytes_eq first (codes "gen")) (numbers_in number lines) None
generated_in (first ∷ number ∷ lines ∷ more ∷ rest) = None

-- the line that tells a status of 2
abbrev pub usage_line : List ℕ
usage_line = codes "usage: wasi_run run FILE | wasi_run gen NUMBER LINES\n"
