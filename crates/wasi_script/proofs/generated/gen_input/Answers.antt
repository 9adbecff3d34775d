use Rattle.std.proofs.Common.{arith, ◌-◌, ◌+◌, ◌*◌, ◌∙◌}
use Rattle.std.proofs.Math.Nat.{mod-add-mod}
use Rattle.wasi_script.specs.Generated.{generated_input}
use Rattle.wasi_script.proofs.GeneratedFacts.{next_byte}
use Rattle.wasi_script.proofs.generated.gen_input.Goals as goal

pub loop-at-preserved : goal.loop-at-preserved
loop-at-preserved c =
    let next = next_byte c.loop-at.input.items (generated_input c.args.number c.args.lines) (c.args.number + c.loop-at.at) (c.args.number + (c.loop-at.at + 1)) (8 * c.args.lines - c.loop-at.at) (8 * c.args.lines - (c.loop-at.at + 1)) _ (omega arith) (omega (arith, c.loop-at-test.true)) (mod-add-mod c.args.number 256 c.loop-at.at) c.loop-at.invariant.whole in
    record { whole = rw c.in_ok-push.ensures.items next }
