-- What a call does that makes an entry for a terminal.
use Rattle.std.specs.Prelude.{◌≡◌, ℕ, Bool, true, false, Option, Some, None, Result, Ok, Err}
use Rattle.wasi_table.specs.Table.{Table, IsPush}
use Rattle.wasi_table.specs.declared.error.TableError.{TableError}
use Rattle.wasi_ctx.specs.declared.entry.Entry.{Entry}

-- a push where the stream is a terminal; else nothing, and no number
abbrev pub IsTerminalPush : Bool → Table Entry → Entry → Result (Option ℕ) TableError → Table Entry → Type 0
IsTerminalPush false before entry answer after = (answer ≡ Ok None) × (after ≡ before)
IsTerminalPush true before entry (Ok (Some number)) after = IsPush before entry None (Ok number) after
IsTerminalPush true before entry (Ok None) after = ⊥
IsTerminalPush true before entry (Err refusal) after = IsPush before entry None (Err refusal) after
