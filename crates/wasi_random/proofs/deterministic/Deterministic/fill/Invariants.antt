use Rattle.std.proofs.Common.{◌≡◌, take}
use Rattle.wasi_random.specs.Cycle.{next_bytes}
use Rattle.wasi_random.proofs.deterministic.Deterministic.fill.Given as goal

-- the bytes so far
abbrev pub invariant-loop-byte : goal.invariant-loop-byte
invariant-loop-byte l = (take l.byte-index l.buffer, l.self) ≡ next_bytes l.byte-index l.fn.self
