use Rattle.std.proofs.Common.{◌∙◌, ap}
use Rattle.std.specs.Prelude.{not}
use Rattle.wasi_threads.specs.Passes.{has_sight}
use Rattle.wasi_threads.proofs.RoundFacts.{gave_more, worked_more, worked_same}
use Rattle.wasi_threads.proofs.shared.SharedStdin.work.Goals as goal

pub loop-preserved : goal.loop-preserved
loop-preserved g c = record {
  next = tt;
  finite = tt;
  first = c.in-Went.ensures.0.adds.number ∙ c.loop.invariant.first;
  unseen = c.in-Went.ensures.1 ∙ c.loop.invariant.unseen;
  gave = gave_more _ _ _ _ _ _ _ _ _ c.loop.invariant.gave c.in-Went.ensures.0;
}

pub returns-in-Ended-clause-worked : goal.returns-in-Ended-clause-worked
returns-in-Ended-clause-worked g c = worked_more _ _ _ _ _ _ _ _ _ c.loop.invariant.gave c.in-Ended.ensures.0

pub returns-in-Stopped-clause-worked : goal.returns-in-Stopped-clause-worked
returns-in-Stopped-clause-worked g c = worked_more _ _ _ _ _ _ _ _ _ c.loop.invariant.gave c.in-Stopped.ensures.0

pub returns-in-NoMemory-clause-worked : goal.returns-in-NoMemory-clause-worked
returns-in-NoMemory-clause-worked g c = worked_same _ _ _ _ _ _ _ _ _ c.loop.invariant.gave c.in-NoMemory.ensures.0 c.in-NoMemory.ensures.1 c.in-NoMemory.ensures.2

pub returns-in-NoMemory-clause-unseen : goal.returns-in-NoMemory-clause-unseen
returns-in-NoMemory-clause-unseen g c = ap (λ es. not (has_sight es)) c.in-NoMemory.ensures.0.entries ∙ ap not c.loop.invariant.unseen
