-- What is left of the path has its last component.
use Rattle.std.proofs.Common.{arith, length-take}
use Rattle.wasi_winrules.proofs.ComponentFacts.{found_here, found_before, found_lone, found_none}
use Rattle.wasi_winrules.proofs.device.last_component.Goals as goal

pub returns-then-is_component : goal.returns-then-is_component
returns-then-is_component c = found_here c.args.path.now c.loop-place.rest.now c.in-Some.place c.in-Some.ensures c.if-is_component.ensures c.loop-place.invariant.same

pub loop-place-preserved : goal.loop-place-preserved
loop-place-preserved c = record {
  within = omega (arith, c.loop-place.invariant.within, length-take c.in-Some.place c.loop-place.rest.now);
  same = found_before c.args.path.now c.loop-place.rest.now c.in-Some.place c.in-Some.ensures c.if-is_component.ensures c.loop-place.invariant.same;
}

pub returns-then-is_component-2 : goal.returns-then-is_component-2
returns-then-is_component-2 c = found_lone c.args.path.now c.loop-place.rest.now c.in_default.ensures c.if-is_component-2.ensures c.loop-place.invariant.same

pub returns-else-is_component-2 : goal.returns-else-is_component-2
returns-else-is_component-2 c = found_none c.args.path.now c.loop-place.rest.now c.in_default.ensures c.if-is_component-2.ensures c.loop-place.invariant.same
