use Rattle.wasi_stdin.specs.laws.Kept.{every_rule_keeps}
use Rattle.wasi_stdin.proofs.laws.every_rule_keeps_the_invariant.Goals as goal

pub returns : goal.returns
returns c = every_rule_keeps
