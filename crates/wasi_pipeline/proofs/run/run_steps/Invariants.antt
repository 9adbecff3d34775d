use Rattle.std.proofs.Common.{◌≡◌, ◌≤◌, Some}
use Rattle.std.specs.Prelude.{take}
use Rattle.wasi_base.specs.Source.{Told}
use Rattle.wasi_base.specs.Sink.{with_more}
use Rattle.wasi_pipeline.specs.Run.{transcript}
use Rattle.wasi_pipeline.specs.Steps.{new_pipe}
use Rattle.wasi_pipeline.proofs.LoopFacts.{After}
use Rattle.wasi_pipeline.proofs.run.run_steps.Given as goal

-- the first steps were done, and the output took the text of their replies
abbrev pub invariant-loop-line : goal.invariant-loop-line
invariant-loop-line g l = record {
  count : l.pipeline.deliveries ≤ l.line-index;
  first : (t : Told) → g.I.Source.told l.fn.stdin ≡ Some t → After (g.I.Source.told l.stdin) l.pipeline.pipe (take l.line-index l.steps) new_pipe t;
  out : (t : Told) → g.I.Source.told l.fn.stdin ≡ Some t → g.K.Sink.taken l.out ≡ with_more (g.K.Sink.taken l.fn.out) (transcript (take l.line-index l.steps) t);
  later : g.K.Sink.faults l.fn.out ≤ g.K.Sink.faults l.out;
}
