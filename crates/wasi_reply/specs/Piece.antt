-- The bytes of a piece, however they are kept.
use Rattle.std.specs.Prelude.{ℕ, List}
use Rattle.wasi_reply.specs.declared.piece.Kept.{Kept}
use Rattle.wasi_reply.specs.declared.piece.Kept.TheVariants.{Own, Shared}

abbrev pub bytes_in : Kept → List ℕ
bytes_in (Own bytes) = bytes.items
bytes_in (Shared bytes) = bytes
