-- Entries by their kind.
use Rattle.std.specs.Prelude.{ℕ}
use Rattle.wasi_ctx.specs.declared.entry.Entry.{Entry}
use Rattle.wasi_ctx.specs.declared.entry.Entry.TheVariants as entry

abbrev pub kind_of : Entry → ℕ
kind_of (entry.Input stream) = 0
kind_of (entry.Output stream) = 1
kind_of entry.TerminalInput = 2
kind_of entry.TerminalOutput = 3
kind_of (entry.PolledInput polled) = 4
kind_of (entry.PolledOutput polled) = 5
kind_of (entry.Pollable wait) = 6
kind_of (entry.Deadline deadline) = 7
kind_of (entry.Wait wait) = 8
kind_of (entry.Descriptor descriptor) = 9
