-- What a race prints, and what it does to its source.
use Rattle.std.specs.Prelude.{◌≡◌, ℕ, ◌≤◌, List, [], ◌∷◌, ◌++◌, length, codes, Option, Some}
use Rattle.hex.specs.Hex.{encode_lower}
use Rattle.wasi_base.specs.Causes.{Rose}
use Rattle.wasi_base.specs.IoKind.{kind_name}
use Rattle.wasi_base.specs.Sink.{with_more}
use Rattle.wasi_base.specs.Source.{Told}
use Rattle.wasi_base.specs.declared.source.Plan.{Plan}
use Rattle.wasi_base.specs.declared.source.Plan.TheVariants as plan
use Rattle.wasi_race.specs.declared.outcome.Last.{Last}
use Rattle.wasi_race.specs.declared.outcome.Last.TheVariants as last
use Rattle.wasi_race.specs.declared.outcome.Reader.{Reader}
use Rattle.wasi_race.specs.declared.outcome.Reader.TheVariants.{First, Second}
use Rattle.wasi_race.specs.declared.words.Sizes.{Sizes}
use Rattle.wasi_race.specs.History.{Printed}

abbrev pub reader_name : Reader → List ℕ
reader_name First = codes "0"
reader_name Second = codes "1"

-- a reader and the bytes that one read gave it, in lower-case hexadecimal
abbrev pub piece_line : Printed → List ℕ
piece_line piece = reader_name piece.reader ++ (codes " " ++ (encode_lower piece.bytes ++ 10 ∷ []))

abbrev pub piece_lines : List Printed → List ℕ
piece_lines [] = []
piece_lines (piece ∷ pieces) = piece_line piece ++ piece_lines pieces

abbrev pub last_line : Last → List ℕ
last_line last.End = codes "end\n"
last_line (last.Fault kind) = codes "fault " ++ (kind_name kind ++ 10 ∷ [])

abbrev pub race_text : List Printed → Last → List ℕ
race_text pieces end = piece_lines pieces ++ last_line end

-- the bytes of all pieces
abbrev pub joined : List Printed → List ℕ
joined [] = []
joined (piece ∷ pieces) = piece.bytes ++ joined pieces

abbrev pub size_of : Sizes → Reader → ℕ
size_of sizes First = sizes.first
size_of sizes Second = sizes.second

-- no piece is longer than its reader asks for
abbrev pub AreShort : Sizes → List Printed → Type 0
AreShort sizes [] = Unit {0}
AreShort sizes (piece ∷ pieces) = (length piece.bytes ≤ size_of sizes piece.reader) × AreShort sizes pieces

-- no item of a plan is a fault
abbrev pub NoFaults : List Plan → Type 0
NoFaults [] = Unit {0}
NoFaults (plan.Take n ∷ items) = NoFaults items
NoFaults (plan.Fail kind ∷ items) = ⊥

-- a fault is the last item of the plan that was done, and the only one that is a fault; an end comes where nothing is left, and of no fault
abbrev pub EndsBy : Last → List Plan → List ℕ → Type 0
EndsBy last.End done left = (left ≡ []) × NoFaults done
EndsBy (last.Fault kind) done left = (before : List Plan) × (done ≡ before ++ plan.Fail kind ∷ []) × NoFaults before

-- the pieces, and then what the source has left, are what it had; of its plan it did the first items
pub record IsToldBy (pieces : List Printed) (end : Last) (before after : Told) : Type 0 where
  pub done : List Plan
  pub plan : before.plan ≡ done ++ after.plan
  pub all : joined pieces ++ after.left ≡ before.left
  pub ends : EndsBy end done after.left

abbrev pub OnFault : Last → Type 0 → Type 0
OnFault last.End P = Unit {0}
OnFault (last.Fault kind) P = P

-- a race that came to its end, over any source, and over one that tells
pub record IsRaced (sizes : Sizes) (pieces : List Printed) (end : Last) (before after : Option Told) (faults now : ℕ) : Type 0 where
  pub short : AreShort sizes pieces
  pub fault : OnFault end (Rose faults now)
  pub told : (t : Told) → before ≡ Some t → (u : Told) × (after ≡ Some u) × IsToldBy pieces end t u

-- .. and what it printed
pub record IsShown (sizes : Sizes) (before after : Option Told) (faults now : ℕ) (taken_before taken_after : Option (List ℕ)) : Type 0 where
  pub pieces : List Printed
  pub end : Last
  pub raced : IsRaced sizes pieces end before after faults now
  pub out : taken_after ≡ with_more taken_before (race_text pieces end)
