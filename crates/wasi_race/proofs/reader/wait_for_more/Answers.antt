use Rattle.wasi_race.proofs.ReaderFacts.{block_adds, wait_adds, same_reads}
use Rattle.wasi_race.proofs.reader.wait_for_more.Goals as goal

pub returns-then-branch : goal.returns-then-branch
returns-then-branch g c = block_adds c.args.size c.loop.pass c.block.new.pass _ _ _ c.loop.invariant.reader c.in_ok-block.ensures.ok

pub returns-in_err-wait_over : goal.returns-in_err-wait_over
returns-in_err-wait_over g c = same_reads c.args.size c.block.new.pass c.wait_over.new.pass (block_adds c.args.size c.loop.pass c.block.new.pass _ _ _ c.loop.invariant.reader c.in_ok-block.ensures.ok) c.in_err-wait_over.ensures.refused

pub returns-then-not-branch : goal.returns-then-not-branch
returns-then-not-branch g c = wait_adds c.args.size c.block.new.pass c.wait_over.new.pass _ _ (block_adds c.args.size c.loop.pass c.block.new.pass _ _ _ c.loop.invariant.reader c.in_ok-block.ensures.ok) c.in_ok-wait_over.ensures.ok

pub loop-preserved : goal.loop-preserved
loop-preserved g c = record {
  next = tt;
  finite = tt;
  reader = wait_adds c.args.size c.block.new.pass c.wait_over.new.pass _ _ (block_adds c.args.size c.loop.pass c.block.new.pass _ _ _ c.loop.invariant.reader c.in_ok-block.ensures.ok) c.in_ok-wait_over.ensures.ok;
}
