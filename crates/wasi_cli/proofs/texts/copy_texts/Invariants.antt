use Rattle.std.proofs.Common.{◌≡◌, ◌++◌, ◌≤◌, drop, length, vec_len, vec_capacity}
use Rattle.wasi_cli.specs.Texts.{texts}
use Rattle.wasi_cli.proofs.texts.copy_texts.Given as goal

-- the copies and what is left are all the texts, and there is room for the rest
abbrev pub invariant-loop-string : goal.invariant-loop-string
invariant-loop-string l =
    (texts l.copies.items ++ texts (drop l.string-index l.strings) ≡ texts l.strings)
    × (vec_len l.copies ≡ l.string-index) × (length l.strings ≤ vec_capacity l.copies)
