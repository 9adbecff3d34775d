use Rattle.std.proofs.Common.{◌≡◌, ◌<◌, arith, ◌-◌, length, take, drop}
use Rattle.wasi_base.proofs.SinkFacts.{with_more-take, sets_out, goes_on, stops_here, arrives}
use Rattle.std.proofs.lemmas.Grind.{common_steps}
use Rattle.wasi_base.proofs.sink.write_all.Goals as goal

pub loop-at-init : goal.loop-at-init
loop-at-init g c = record {
  within = omega arith;
  took = grind (arith, common_steps);
  later = omega arith;
  way = λ first e. sets_out first (length c.args.bytes.now) (g.K.Sink.limits c.args.sink.now) e;
}

pub loop-at-preserved : goal.loop-at-preserved
loop-at-preserved g c =
    let rest = length c.args.bytes.now - c.loop-at.at in
    let len : length (take rest (drop c.loop-at.at c.args.bytes.now)) ≡ rest = grind (arith, common_steps) in
    let some : 0 < length (take rest (drop c.loop-at.at c.args.bytes.now)) = rw len (omega arith) in
    record {
      within = grind (arith, common_steps, c.in-Ok.ensures.bound);
      took = grind (arith, common_steps, c.in-Ok.ensures.took, with_more-take (g.K.Sink.taken c.args.sink.now) c.args.bytes.now c.loop-at.at c.in-Ok.count);
      later = omega (arith, c.write.ensures.cause.later);
      way = λ first e. goes_on first (length c.args.bytes.now) c.loop-at.at c.in-Ok.count (g.K.Sink.limits c.loop-at.sink) (g.K.Sink.limits c.write.new.self) (omega arith) (c.in-Ok.ensures.some some) (c.loop-at.invariant.way first e) (rw (len, c.in-Ok.is) at (c.write.ensures.limits some));
    }

pub returns-in-Err-clause-limits : goal.returns-in-Err-clause-limits
returns-in-Err-clause-limits g c =
    let rest = length c.args.bytes.now - c.loop-at.at in
    let len : length (take rest (drop c.loop-at.at c.args.bytes.now)) ≡ rest = grind (arith, common_steps) in
    let some : 0 < length (take rest (drop c.loop-at.at c.args.bytes.now)) = rw len (omega arith) in
    record { told = λ first e. stops_here first (length c.args.bytes.now) c.loop-at.at c.in-Err.kind (g.K.Sink.limits c.loop-at.sink) (g.K.Sink.limits c.write.new.self) (omega arith) (c.loop-at.invariant.way first e) (rw (len, c.in-Err.is) at (c.write.ensures.limits some)) }

pub returns-clause-limits : goal.returns-clause-limits
returns-clause-limits g c = record { told = λ first e. arrives first (length c.args.bytes.now) c.loop-at.at (g.K.Sink.limits c.loop-at.sink) (omega arith) (c.loop-at.invariant.way first e) }
