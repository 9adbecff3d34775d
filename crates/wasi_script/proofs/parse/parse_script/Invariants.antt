use Rattle.std.proofs.Common.{◌≤◌, ◌+◌, length}
use Rattle.wasi_script.specs.Grammar.{parsed}
use Rattle.wasi_script.specs.Declarations.{names_in}
use Rattle.wasi_script.proofs.ScriptFacts.{IsReadTo}
use Rattle.wasi_script.proofs.parse.parse_script.Given as goal

abbrev pub invariant-loop-text : goal.invariant-loop-text
invariant-loop-text l = record {
  so_far : IsReadTo (parsed l.bytes) l.steps.items (names_in l.declarations) (l.number + 1) l.text-iterator;
  count : l.number + length l.text-iterator ≤ length l.bytes + 1;
}
