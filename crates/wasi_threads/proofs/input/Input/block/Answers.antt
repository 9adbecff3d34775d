use Rattle.std.proofs.Common.{sym, ap, ◌∙◌}
use Rattle.wasi_stdin.specs.Shared.{Shared}
use Rattle.wasi_threads.proofs.BytesFacts.{block_held}
use Rattle.wasi_threads.proofs.ShareFacts.{held_moves}
use Rattle.wasi_threads.proofs.input.Input.block.Goals as goal

pub invariant_of-self : goal.invariant_of-self
invariant_of-self c = held_moves c.self.inside.held c.self.inside.core.held c.block.new.self.held (sym (ap (λ (s : Shared). s.held) c.block.ensures.after ∙ block_held c.self.inside.core c.args.wait.now)) c.self.invariant
