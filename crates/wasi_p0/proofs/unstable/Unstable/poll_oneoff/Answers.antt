use Rattle.std.proofs.Common.{ℕ, List, subst}
use Rattle.wasi_p0.proofs.ReadBackFacts.{AreBytes}
use Rattle.wasi_p0.proofs.RestoredFacts.{restores}
use Rattle.wasi_p0.proofs.unstable.Unstable.poll_oneoff.Goals as goal
use Rattle.wasi_p1.specs.declared.call.Call.TheVariants.{PollOneoff}

pub returns-clause-restored : goal.returns-clause-restored
returns-clause-restored g c =
    let P : List ℕ → Type 0 = λ memory. AreBytes memory in
    restores g.T.Snapshot1.fuel_consumed (g.T.Snapshot1.answers (PollOneoff c.args.subs c.args.events c.args.nsubscriptions))
    (record { place = c.args.subs; count = c.args.nsubscriptions })
    (record { object = c.args.self.now.0.now; memory = c.args.memory.now })
    (record { answer = c.poll_oneoff.result; object = c.poll_oneoff.new.object; memory = c.poll_oneoff.new.memory })
    (subst P c.bytes.ensures c.are_bytes.ensures) c.poll_oneoff.ensures
