use Rattle.std.proofs.Common.{length, min, max, arith, ◌≡◌, ◌∙◌, ap, sym, Some}
use Rattle.std.specs.Prelude.{slice_get}
use Rattle.std.proofs.lemmas.Grind.{common_steps}
use Rattle.wasi_base.specs.declared.source.Plan.TheVariants.{Take, Fail}
use Rattle.wasi_base.specs.Memory.{SourceMemory}
use Rattle.wasi_base.proofs.SourceFacts.{gives_fault, gives_take, gives_from, given_some}
use Rattle.wasi_base.proofs.memory_source.MemSourceSource.read.Goals as goal

pub returns-in-Some-Fail-clause-gives : goal.returns-in-Some-Fail-clause-gives
returns-in-Some-Fail-clause-gives c = λ some.
    let first : slice_get c.args.self.now.told.plan 0 ≡ Some (Fail c.in-Some-Fail.kind) = cc in
    let facts = gives_fault c.args.self.now.told.left c.args.self.now.told.plan (length c.args.buf.now) c.in-Some-Fail.kind first in
    gives_from _ _ _ _ tt (sym facts.0) (c.fail.ensures.told ∙ sym facts.1)

pub returns-then-count-gt0-clause-gives : goal.returns-then-count-gt0-clause-gives
returns-then-count-gt0-clause-gives c = λ some.
    let first : slice_get c.args.self.now.told.plan 0 ≡ Some (Take c.in-Some-Take.most) = cc in
    let room : c.min.result ≡ min (length c.args.buf.now) (max c.in-Some-Take.most 1) = cc in
    let facts = gives_take c.args.self.now.told.left c.args.self.now.told.plan (length c.args.buf.now) c.in-Some-Take.most c.hand_out-count.result c.hand_out-count.new.buf some first (rw (← room) c.hand_out-count.ensures.count) (rw (← room) c.hand_out-count.ensures.front) (omega arith) in
    gives_from _ _ _ _ (rw (given_some c.hand_out-count.result c.hand_out-count.new.buf (omega arith)) (grind (arith, common_steps))) facts.0 (ap (λ (m : SourceMemory). m.told) c.drop_item.ensures ∙ rw (c.hand_out-count.ensures.told, room) (sym facts.1))

pub returns-in-Some-Fail-clause-cause : goal.returns-in-Some-Fail-clause-cause
returns-in-Some-Fail-clause-cause c = record { later = c.fail.ensures.later; failed = c.fail.ensures.faults }
