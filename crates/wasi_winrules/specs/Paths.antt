-- Paths, as lists of UTF-16 units.
use Rattle.std.specs.Prelude.{◌≡◌, ℕ, ◌≤◌, Bool, ◌||◌, ◌==◌, ◌⊎◌, List, ◌++◌, length, codes, IsTrue, All}

-- `/` or `\`
abbrev pub is_separator : ℕ → Bool
is_separator unit = unit == 47 || unit == 92

abbrev pub IsFront : List ℕ → List ℕ → Type 0
IsFront front path = (rest : List ℕ) × (path ≡ front ++ rest)

abbrev pub EndsIn : List ℕ → List ℕ → Type 0
EndsIn path end = (front : List ℕ) × (path ≡ front ++ end)

abbrev pub HasTrailingSlash : List ℕ → Type 0
HasTrailingSlash path = EndsIn path (codes "/") ⊎ EndsIn path (codes "\\")

abbrev pub HasTrailingDot : List ℕ → Type 0
HasTrailingDot path = EndsIn path (codes "/.") ⊎ EndsIn path (codes "\\.")

-- only a directory has this path
abbrev pub RequiresDir : List ℕ → Type 0
RequiresDir path = HasTrailingSlash path ⊎ HasTrailingDot path

-- it ends in no separator, or is a separator alone
abbrev pub IsBare : List ℕ → Type 0
IsBare path = (HasTrailingSlash path → ⊥) ⊎ (length path ≡ 1)

-- what is kept of the path: its longest front that is bare; separators alone are cut off
pub record IsStripped (path kept : List ℕ) : Type 0 where
  pub bare : IsBare kept
  pub cut : (rest : List ℕ) × (path ≡ kept ++ rest) × All (λ unit. IsTrue (is_separator unit)) rest
  pub longest : (front : List ℕ) → IsFront front path → IsBare front → length front ≤ length kept
