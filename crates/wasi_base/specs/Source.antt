-- What a source tells, and what one read of it gives.
use Rattle.std.specs.Prelude.{◌≡◌, ℕ, ◌≤◌, min, max, List, [], ◌∷◌, length, take, drop, Option, Some, Result, Ok, Err, zero, suc}
use Rattle.wasi_base.specs.declared.io_kind.IoKind.{IoKind}
use Rattle.wasi_base.specs.declared.source.Plan.{Plan}
use Rattle.wasi_base.specs.declared.source.Plan.TheVariants.{Take, Fail}

-- the bytes left and the plan
pub record Told : Type 0 where
  pub left : List ℕ
  pub plan : List Plan

-- what one read gives
pub data Given : Type 0 where
  Bytes : List ℕ → Given
  End : Given
  Fault : IoKind → Given

-- the bytes that a read gives
abbrev pub bytes_given : Given → List ℕ
bytes_given (Bytes bytes) = bytes
bytes_given End = []
bytes_given (Fault kind) = []

-- one read of room r, by the plan and the bytes left: what it gives ..
abbrev pub given_by : List Plan → List ℕ → ℕ → Given
given_by (Fail kind ∷ plan) left r = Fault kind
given_by (Take k ∷ plan) [] r = End
given_by (Take k ∷ plan) (b ∷ left) r = Bytes (take (min r (max k 1)) (b ∷ left))
given_by [] [] r = End
given_by [] (b ∷ left) r = Bytes (take r (b ∷ left))

-- .. and what is told next
abbrev pub told_by : List Plan → List ℕ → ℕ → Told
told_by (Fail kind ∷ plan) left r = record { left = left; plan = plan }
told_by (Take k ∷ plan) [] r = record { left = []; plan = Take k ∷ plan }
told_by (Take k ∷ plan) (b ∷ left) r = record { left = drop (min r (max k 1)) (b ∷ left); plan = plan }
told_by [] [] r = record { left = []; plan = [] }
told_by [] (b ∷ left) r = record { left = drop r (b ∷ left); plan = [] }

abbrev pub gives : Told → ℕ → Given
gives told r = given_by told.plan told.left r

abbrev pub told_after : Told → ℕ → Told
told_after told r = told_by told.plan told.left r

-- what the answer of a read and its buffer say was given
abbrev pub given_in : Result ℕ IoKind → List ℕ → Given
given_in (Err kind) buf = Fault kind
given_in (Ok zero) buf = End
given_in (Ok (suc n)) buf = Bytes (take (suc n) buf)

-- a source, telling or not, may give this to a read of room r
abbrev pub MayGive : ℕ → Given → Type 0
MayGive r (Bytes bytes) = (1 ≤ length bytes) × (length bytes ≤ r)
MayGive r End = Unit {0}
MayGive r (Fault kind) = Unit {0}

-- a read of room r took a source from `before` to `after` and gave `given`
pub record Gives (before : Option Told) (r : ℕ) (given : Given) (after : Option Told) : Type 0 where
  pub may : MayGive r given
  pub told : (t : Told) → before ≡ Some t → (given ≡ gives t r) × (after ≡ Some (told_after t r))
