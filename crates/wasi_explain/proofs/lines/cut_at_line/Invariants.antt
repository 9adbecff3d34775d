use Rattle.std.proofs.Common.{◌≡◌, ℕ, ◌+◌, ◌-◌, ◌≤◌, [], length, get_or}
use Rattle.wasi_script.specs.Grammar.{lines_of}
use Rattle.wasi_explain.proofs.lines.cut_at_line.Given as goal

abbrev pub invariant-loop : goal.invariant-loop
invariant-loop l = record {
  short : length l.rest ≤ length l.script;
  within : l.counter - 1 ≤ l.line - 1;
  lines : (j : ℕ) → get_or (lines_of l.rest) j [] ≡ get_or (lines_of l.script) (l.counter - 1 + j) [];
}
