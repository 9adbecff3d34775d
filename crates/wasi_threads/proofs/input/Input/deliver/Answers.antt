use Rattle.std.proofs.Common.{◌≡◌, sym, ap, ◌∙◌}
use Rattle.wasi_stdin.specs.Shared.{Shared, delivered, outcome_given}
use Rattle.wasi_threads.proofs.BytesFacts.{given_held}
use Rattle.wasi_threads.proofs.ShareFacts.{held_moves}
use Rattle.wasi_threads.proofs.input.Input.deliver.Goals as goal

pub invariant_of-self : goal.invariant_of-self
invariant_of-self c =
    let fits = rw (← c.self.view_is) at c.requires.fits in
    let after : c.deliver.new.self ≡ delivered c.self.inside.core (outcome_given c.args.outcome c.args.bytes.now) = c.deliver.ensures ∙ ap (λ bytes. delivered c.self.inside.core (outcome_given c.args.outcome bytes)) c.as_slice.ensures in
    held_moves c.share.result c.args.bytes.now c.deliver.new.self.held (sym (ap (λ (s : Shared). s.held) after ∙ given_held c.args.outcome c.args.bytes.now c.self.inside.core.captured c.self.inside.core fits)) c.share.ensures
