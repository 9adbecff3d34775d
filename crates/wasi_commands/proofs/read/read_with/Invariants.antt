use Rattle.std.proofs.Common.{◌≡◌, ◌≤◌, ◌-◌, length, Some}
use Rattle.wasi_base.specs.Source.{Told}
use Rattle.wasi_commands.specs.Reading.{HasTaken}
use Rattle.wasi_commands.proofs.read.read_with.Given as goal

abbrev pub invariant-whole : goal.invariant-whole
invariant-whole g l = record {
  told : (s : Told) → g.S.Source.told l.fn.script ≡ Some s → HasTaken s (g.S.Source.told l.script) l.bytes.items;
  later : g.S.Source.faults l.fn.script ≤ g.S.Source.faults l.script;
  within : length l.bytes.items ≤ 16777217;
}

abbrev pub decreases-whole : goal.decreases-whole
decreases-whole g l = 16777217 - length l.bytes.items
