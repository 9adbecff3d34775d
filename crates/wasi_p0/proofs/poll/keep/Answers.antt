use Rattle.std.proofs.Common.{Ok, arith}
use Rattle.wasi_p0.proofs.RewritingFacts.{rewriting_more, rewriting_ends}
use Rattle.wasi_p0.proofs.poll.keep.Goals as goal

pub loop-i-preserved : goal.loop-i-preserved
loop-i-preserved c = record {
  so_far = rewriting_more c.args.subs c.loop-i.i c.args.memory.now c.loop-i.kept.items c.loop-i.memory (record { kept = Ok c.keep_one.new.kept.items; memory = c.keep_one.new.memory }) c.loop-i.invariant.so_far c.in-Ok.ensures.kept;
  count = (let before = c.loop-i.invariant.count in let more = c.in-Ok.ensures.count in omega arith);
}

pub returns-in-Err-clause-refused : goal.returns-in-Err-clause-refused
returns-in-Err-clause-refused c =
    rewriting_ends c.args.subs c.loop-i.i c.args.nsubscriptions c.args.memory.now c.loop-i.kept.items c.loop-i.memory c.keep_one.new.memory c.in-Err.error c.loop-i-test.true c.loop-i.invariant.so_far c.in-Err.ensures.refused c.in-Err.ensures.unchanged
