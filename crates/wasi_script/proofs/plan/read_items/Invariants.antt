use Rattle.std.specs.Prelude.{nat_eq}
use Rattle.std.specs.List.{slice_split}
use Rattle.wasi_script.proofs.PlanFacts.{IsReadTo}
use Rattle.wasi_script.proofs.plan.read_items.Given as goal

abbrev pub invariant-loop-word : goal.invariant-loop-word
invariant-loop-word g l = IsReadTo g.T.Item.meaning (slice_split (λ byte. nat_eq byte 44) l.text) l.items.items l.word-iterator
