use Rattle.std.proofs.Common.{ap, sym, ◌∙◌, Some}
use Rattle.wasi_host.specs.Contexts.{at_context}
use Rattle.wasi_session.specs.Contexts.{Contexts, settings_in}
use Rattle.wasi_session.proofs.ContextFacts.{there_at, none_at}
use Rattle.wasi_session.proofs.contexts.Contexts.named_settings.Goals as goal

pub returns-in-Some : goal.returns-in-Some
returns-in-Some c = sym (there_at settings_in c.self.inside.main c.self.inside.named.entries c.args.id c.in-Some.context.now (rw c.in-Some.is at c.get.ensures.value)) ∙ ap (λ (contexts : Contexts). at_context (Some c.args.id) contexts.settings) c.self.view_is

pub returns-in-None : goal.returns-in-None
returns-in-None c = sym (none_at settings_in c.self.inside.main c.self.inside.named.entries c.args.id (rw c.in-None.is at c.get.ensures.value)) ∙ ap (λ (contexts : Contexts). at_context (Some c.args.id) contexts.settings) c.self.view_is
