use Rattle.std.proofs.Common.{rules}
use Rattle.rand_core.proofs.StepsLemmas.{meets_next_u32}
use Rattle.wasi_random.proofs.deterministic.DeterministicRng.next_u32.Goals as goal

pub returns-clause-drawn : goal.returns-clause-drawn
returns-clause-drawn c = meets_next_u32 _ _ _ _ (search rules)
