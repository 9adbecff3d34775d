-- The texts of refusals.
use Rattle.std.specs.Prelude.{ℕ, List, codes}
use Rattle.wasi_base.specs.TrapText.{trap_text}
use Rattle.wasi_random.specs.declared.bytes.RandomRefused.{RandomRefused}
use Rattle.wasi_random.specs.declared.bytes.RandomRefused.TheVariants.{Trap, OutOfMemory}

abbrev pub refused_text : RandomRefused → List ℕ
refused_text (Trap text) = trap_text text
refused_text OutOfMemory = codes "out of memory"
