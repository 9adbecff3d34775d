-- What a table ends as once the reference to an entry has ended.
use Rattle.std.specs.Prelude.{ℕ, Result}
use Rattle.std.specs.Borrow.{LendsIfOk, Fml, RattleType, MutBor}
use Rattle.wasi_table.specs.declared.kinds.Kinded.{Ghosts}
use Rattle.wasi_table.specs.declared.error.TableError.{TableError}
use Rattle.wasi_table.specs.contracts.table.ResourceTable.{the_row}
use Rattle.wasi_table.specs.Table.{Table, with_entry}

-- the number has the last value written through r, and after a refusal the table is as it was
abbrev pub LendsEntry : (K : RattleType) → Ghosts K.Denot → MutBor (Table K.Denot) → ℕ → Result (MutBor K.Denot) TableError → Fml
LendsEntry K kinded t n r = LendsIfOk (the_row K kinded) K t r (with_entry t.now n) t.now
