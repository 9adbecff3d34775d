use Rattle.std.proofs.Common.{ap, sym, ◌∙◌}
use Rattle.wasi_host.specs.Contexts.{is_named}
use Rattle.wasi_session.specs.Contexts.{Contexts, settings_in}
use Rattle.wasi_session.proofs.ContextFacts.{named_is}
use Rattle.wasi_session.proofs.contexts.Contexts.has.Goals as goal

pub returns : goal.returns
returns c =
    c.contains_key.ensures
    ∙ sym (named_is settings_in c.self.inside.main c.self.inside.named.entries c.args.id)
    ∙ ap (λ (contexts : Contexts). is_named c.args.id contexts.settings) c.self.view_is
