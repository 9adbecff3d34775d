use Rattle.std.proofs.Common.{◌≡◌, ◌+◌, ◌*◌, drop}
use Rattle.wasi_p0.specs.Slots.{restoring}
use Rattle.wasi_p0.proofs.poll.restore.Given as goal

abbrev pub invariant-loop-i : goal.invariant-loop-i
invariant-loop-i l = restoring (l.subs + 48 * l.i) (drop l.i l.kept) l.memory ≡ restoring l.subs l.kept l.fn.memory
