use Rattle.std.proofs.Common.{arith}
use Rattle.wasi_p0.proofs.SlotFacts.{slot_at-inside}
use Rattle.wasi_p0.proofs.slot.read.Goals as goal

pub returns : goal.returns
returns c = slot_at-inside c.args.place c.args.memory.now _ (omega arith) c.read_slot.ensures
