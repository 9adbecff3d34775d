use Rattle.wasi_p0.proofs.SlotFacts.{put_mid-slot}
use Rattle.wasi_p0.proofs.slot.write.Goals as goal

pub returns : goal.returns
returns c = put_mid-slot c.args.place c.args.wait c.args.memory.now _ c.write_slot.ensures
