-- The words of a race.
use Rattle.std.specs.Prelude.{ℕ, ◌≤◌, cond, List, [], ◌∷◌, codes, Option, None}
use Rattle.std.specs.Option.{option_and_then, option_map}
use Rattle.std.specs.Str.{bytes_eq}
use Rattle.wasi_race.specs.declared.words.Sizes.{Sizes}
use Rattle.wasi_words.specs.Fields.{number_between}

-- A and B are numbers from 1 to 65536
abbrev pub sizes_by : List ℕ → List ℕ → Option Sizes
sizes_by a b = option_and_then (λ first. option_map (λ second. record { first = first; second = second }) (number_between 1 65536 b)) (number_between 1 65536 a)

-- `race FILE A B`, where FILE is any word
abbrev pub sizes_in : List (List ℕ) → Option Sizes
sizes_in [] = None
sizes_in (command ∷ []) = None
sizes_in (command ∷ file ∷ []) = None
sizes_in (command ∷ file ∷ a ∷ []) = None
sizes_in (command ∷ file ∷ a ∷ b ∷ []) = cond (bytes_eq command (codes "race")) (sizes_by a b) None
sizes_in (command ∷ file ∷ a ∷ b ∷ more ∷ rest) = None

pub record AreSizes (sizes : Sizes) : Type 0 where
  pub first : (1 ≤ sizes.first) × (sizes.first ≤ 65536)
  pub second : (1 ≤ sizes.second) × (sizes.second ≤ 65536)
