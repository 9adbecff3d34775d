use Rattle.std.proofs.Common.{◌≤◌, ◌+◌, length}
use Rattle.wasi_pipeline.specs.Bounds.{HaveBounds}
use Rattle.wasi_pipeline.specs.Grammar.{parsed}
use Rattle.wasi_pipeline.proofs.ScriptFacts.{IsReadTo}
use Rattle.wasi_pipeline.proofs.parse.parse_script.Given as goal

abbrev pub invariant-loop-text : goal.invariant-loop-text
invariant-loop-text l = record {
  so_far : IsReadTo (parsed l.bytes) l.steps.items l.declared (l.number + 1) l.text-iterator;
  bounds : HaveBounds l.steps.items;
  count : l.number + length l.text-iterator ≤ length l.bytes + 1;
}
