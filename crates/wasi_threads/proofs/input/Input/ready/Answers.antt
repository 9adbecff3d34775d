use Rattle.std.proofs.Common.{sym, ap}
use Rattle.wasi_stdin.specs.Shared.{Shared}
use Rattle.wasi_threads.proofs.ShareFacts.{held_moves}
use Rattle.wasi_threads.proofs.input.Input.ready.Goals as goal

pub invariant_of-self : goal.invariant_of-self
invariant_of-self c = held_moves c.self.inside.held c.self.inside.core.held c.ready.new.self.held (sym (ap (λ (s : Shared). s.held) c.ready.ensures.after)) c.self.invariant
