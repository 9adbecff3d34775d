-- The bytes of a piece, however they are kept.
use Rattle.std.specs.Prelude.{ℕ, List}
use Rattle.wasi_threads.specs.declared.piece.Block.{Block}
use Rattle.wasi_threads.specs.declared.piece.Block.TheVariants.{Own, Shared}

abbrev pub bytes_in : Block → List ℕ
bytes_in (Own bytes) = bytes.items
bytes_in (Shared bytes) = bytes
