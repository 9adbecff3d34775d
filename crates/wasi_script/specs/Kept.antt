-- The bytes that a script's field keeps.
use Rattle.std.specs.Prelude.{ℕ, List, replicate}
use Rattle.wasi_script.specs.declared.bytes.Kept.{Kept}
use Rattle.wasi_script.specs.declared.bytes.Kept.TheVariants.{Listed, Repeated}

abbrev pub kept_bytes : Kept → List ℕ
kept_bytes (Listed bytes) = bytes.items
kept_bytes (Repeated count byte) = replicate count byte
