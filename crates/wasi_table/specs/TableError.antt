-- A table's refusals as a guest is told them.
use Rattle.std.specs.Prelude.{ℕ, List, codes}
use Rattle.wasi_base.specs.TrapText.{trap_text}
use Rattle.wasi_base.specs.declared.trap_text.TrapText.TheVariants.{ResourceNotPresent, ResourceWrongType, ResourceHasChildren, ResourceTableFull}
use Rattle.wasi_base.specs.declared.trappable.Trapped.{Trapped}
use Rattle.wasi_base.specs.declared.trappable.Trapped.TheVariants as trapped
use Rattle.wasi_table.specs.declared.error.TableError.{TableError}
use Rattle.wasi_table.specs.declared.error.TableError.TheVariants.{NotPresent, WrongType, HasChildren, Full, OutOfMemory}

-- every refusal is a trap, but for out of memory
abbrev pub trapped_by : TableError → Trapped
trapped_by NotPresent = trapped.Trap ResourceNotPresent
trapped_by WrongType = trapped.Trap ResourceWrongType
trapped_by HasChildren = trapped.Trap ResourceHasChildren
trapped_by Full = trapped.Trap ResourceTableFull
trapped_by OutOfMemory = trapped.OutOfMemory

abbrev pub table_error_text : TableError → List ℕ
table_error_text NotPresent = trap_text ResourceNotPresent
table_error_text WrongType = trap_text ResourceWrongType
table_error_text HasChildren = trap_text ResourceHasChildren
table_error_text Full = trap_text ResourceTableFull
table_error_text OutOfMemory = codes "out of memory"
