use Rattle.std.proofs.Common.{length}
use Rattle.rand_core.proofs.StepsLemmas.{meets_fill_bytes}
use Rattle.wasi_random.proofs.CycleFacts.{again_when_filled}
use Rattle.wasi_random.proofs.deterministic.DeterministicRng.fill_bytes.Goals as goal

pub returns-clause-drawn : goal.returns-clause-drawn
returns-clause-drawn c = meets_fill_bytes _ _ _ _ _ c.fill.ensures

pub returns-clause-again : goal.returns-clause-again
returns-clause-again c = again_when_filled (length c.args.dst.now) _ _ _ (rw (← c.self.view_is) c.self.invariant) c.fill.ensures
