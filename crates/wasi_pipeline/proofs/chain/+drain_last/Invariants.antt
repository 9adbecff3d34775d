use Rattle.std.proofs.Common.{length}
use Rattle.wasi_pipeline.proofs.chain.+drain_last.Given as goal

abbrev pub decreases-drain_last : goal.decreases-drain_last
decreases-drain_last l = length l.stages.now
