use Rattle.std.proofs.Common.{sym, ap, ◌∙◌}
use Rattle.wasi_stdin.specs.Shared.{Shared, capture_of}
use Rattle.wasi_threads.proofs.BytesFacts.{captured_held}
use Rattle.wasi_threads.proofs.ShareFacts.{held_moves}
use Rattle.wasi_threads.proofs.input.Input.capture.Goals as goal

pub invariant_of-self : goal.invariant_of-self
invariant_of-self c = held_moves c.self.inside.held c.self.inside.core.held c.capture.new.self.held (sym (ap (λ (s : Shared). s.held) c.capture.ensures.after ∙ captured_held (capture_of c.self.inside.core) c.self.inside.core)) c.self.invariant
