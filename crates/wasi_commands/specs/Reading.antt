-- What was read of a script.
use Rattle.std.specs.Prelude.{◌≡◌, ℕ, ◌≤◌, List, ◌++◌, length, Option, Some}
use Rattle.wasi_base.specs.Source.{Told}
use Rattle.wasi_commands.specs.declared.read.ReadError.{ReadError}
use Rattle.wasi_commands.specs.declared.read.ReadError.TheVariants.{Fault}
use Rattle.wasi_commands.specs.declared.read.ReadError.TheVariants as reading

-- these bytes were taken of what a source had left at first
pub record HasTaken (first : Told) (now : Option Told) (bytes : List ℕ) : Type 0 where
  pub at : Told
  pub now_is : now ≡ Some at
  pub all : bytes ++ at.left ≡ first.left

-- a source that was read to its end, within the limit
pub record IsReadWhole (first : Told) (now : Option Told) : Type 0 where
  pub taken : HasTaken first now first.left
  pub short : length first.left ≤ 16777216

-- a source of which one byte more than the limit was taken
pub record IsReadPast (first : Told) (now : Option Told) : Type 0 where
  pub bytes : List ℕ
  pub taken : HasTaken first now bytes
  pub past : length bytes ≡ 16777217

-- a source of which no more than the limit was taken
pub record IsReadInPart (first : Told) (now : Option Told) : Type 0 where
  pub bytes : List ℕ
  pub taken : HasTaken first now bytes
  pub within : length bytes ≤ 16777216

-- the same of the reading alone
abbrev pub ErrorRead : ReadError → Told → Option Told → Type 0
ErrorRead Fault script now = IsReadInPart script now
ErrorRead reading.TooLong script now = IsReadPast script now
ErrorRead reading.OutOfMemory script now = Unit {0}

abbrev pub OnFault : ReadError → Type 0 → Type 0
OnFault Fault P = P
OnFault reading.TooLong P = Unit {0}
OnFault reading.OutOfMemory P = Unit {0}
