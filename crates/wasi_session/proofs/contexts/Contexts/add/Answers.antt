use Rattle.std.proofs.Common.{ap, sym, ◌∙◌}
use Rattle.wasi_host.specs.Contexts.{is_named}
use Rattle.wasi_session.specs.Contexts.{Contexts, settings_in, sources_in}
use Rattle.wasi_session.proofs.ContextFacts.{named_is, one_more}
use Rattle.wasi_session.proofs.contexts.Contexts.add.Goals as goal

pub returns-clause-ok : goal.returns-clause-ok
returns-clause-ok c =
    let main = c.self.inside.main in
    let es = c.self.inside.named.entries in
    let new = sym (named_is settings_in main es c.args.id) ∙ (rw (← c.self.view_is) at c.requires) in
    rw (← c.self.view_is) (λ i. record {
      settings = (one_more settings_in main es c.args.id c.insert.new.self.entries c.new.result new c.in_ok-insert.ensures.entries ∙ ap (λ it. Rattle.wasi_host.specs.Contexts.with_named c.args.id (settings_in it) (Rattle.wasi_session.specs.Contexts.by_part settings_in main es)) c.new.ensures) i;
      sources = (one_more sources_in main es c.args.id c.insert.new.self.entries c.new.result new c.in_ok-insert.ensures.entries ∙ ap (λ it. Rattle.wasi_host.specs.Contexts.with_named c.args.id (sources_in it) (Rattle.wasi_session.specs.Contexts.by_part sources_in main es)) c.new.ensures) i;
    })
