use Rattle.std.proofs.Common.{ap, sym, ◌∙◌}
use Rattle.wasi_script.specs.Grammar.{reading_after}
use Rattle.wasi_host.specs.Host.{names_of}
use Rattle.wasi_session.specs.Live.{step_if_any}
use Rattle.wasi_session.specs.Sitting.{Sitting}
use Rattle.wasi_session.proofs.session.Session.read_line.Goals as goal

pub returns-in-Note : goal.returns-in-Note
returns-in-Note c = ap (λ (sitting : Sitting). step_if_any (reading_after (names_of sitting.host) c.args.text.now)) (sym c.self.view_is) ∙ ap step_if_any (sym c.in_ok-read_after.ensures ∙ c.in-Note.is)

pub returns-in-Step : goal.returns-in-Step
returns-in-Step c = ap (λ (sitting : Sitting). step_if_any (reading_after (names_of sitting.host) c.args.text.now)) (sym c.self.view_is) ∙ ap step_if_any (sym c.in_ok-read_after.ensures ∙ c.in-Step.is)

pub returns-in-Invalid : goal.returns-in-Invalid
returns-in-Invalid c = ap (λ (sitting : Sitting). step_if_any (reading_after (names_of sitting.host) c.args.text.now)) (sym c.self.view_is) ∙ ap step_if_any (sym c.in_ok-read_after.ensures ∙ c.in-Invalid.is)
