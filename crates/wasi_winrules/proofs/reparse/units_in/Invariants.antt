use Rattle.std.proofs.Common.{◌≡◌, ◌++◌, length}
use Rattle.wasi_winrules.specs.Reparse.{units_in}
use Rattle.wasi_winrules.proofs.reparse.units_in.Given as goal

-- the units so far and those of the rest
abbrev pub invariant-loop-pair : goal.invariant-loop-pair
invariant-loop-pair l = l.units.items ++ units_in l.rest ≡ units_in l.bytes

abbrev pub decreases-loop-pair : goal.decreases-loop-pair
decreases-loop-pair l = length l.rest
