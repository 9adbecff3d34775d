use Rattle.std.proofs.Common.{arith, ◌-◌, ◌+◌}
use Rattle.wasi_script.specs.Generated.{generated_script}
use Rattle.wasi_script.proofs.GeneratedFacts.{next_line}
use Rattle.wasi_script.proofs.generated.generate_text.Goals as goal

pub loop-line-preserved : goal.loop-line-preserved
loop-line-preserved c =
    let next = next_line c.loop-line.text.items (generated_script c.args.number c.args.lines) c.loop-line.at (c.args.lines - c.loop-line._line) (c.args.lines - (c.loop-line._line + 1)) (omega (arith, c.loop-line-test.true)) c.loop-line.invariant.whole in
    record { whole = rw (c.in_ok-push_line.ensures, c.next_number-at.ensures) next }
