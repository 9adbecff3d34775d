use Rattle.std.proofs.Common.{◌≡◌, ◌+◌, ◌-◌, ◌*◌, ◌≤◌, length, take}
use Rattle.wasi_pipeline.specs.Kinds.{become_all, last_after, most_made}
use Rattle.wasi_pipeline.proofs.kind.StageKind.make.Given as goal

abbrev pub invariant-loop-byte : goal.invariant-loop-byte
invariant-loop-byte l =
    let taken = take l.byte-index l.bytes in
    record {
      made : take l.count l.room ≡ become_all l.self l.fn.last taken;
      last : l.last ≡ last_after l.fn.last taken;
      room : l.count + most_made l.self * (length l.bytes - l.byte-index) ≤ length l.room;
    }
