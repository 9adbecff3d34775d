-- What one read of a source gave, as the program keeps it.
use Rattle.std.specs.Prelude.{ℕ}
use Rattle.wasi_base.specs.Causes.{Rose}
use Rattle.wasi_base.specs.Source.{Given}
use Rattle.wasi_base.specs.Source as given
use Rattle.wasi_streams.specs.declared.input_file.Piece.{Piece}
use Rattle.wasi_streams.specs.declared.input_file.Piece.TheVariants.{Bytes, End, Fault}

abbrev pub given_by : Piece → Given
given_by (Bytes bytes) = given.Bytes bytes
given_by End = given.End
given_by (Fault kind) = given.Fault kind

abbrev pub FaultOf : ℕ → Piece → ℕ → Type 0
FaultOf before (Bytes bytes) now = Unit {0}
FaultOf before End now = Unit {0}
FaultOf before (Fault kind) now = Rose before now
