-- Who doesn't hold the turn leaves those that wait.
use Rattle.std.proofs.Common.{◌≡◌, ◌∙◌, ap, sym, not, rules, subst}
use Rattle.std.proofs.lemmas.Fn.{filter_same}
use Rattle.wasi_cli.specs.Turns.{Turn, IsTurn, without, same}
use Rattle.wasi_cli.proofs.TurnFacts.{leaves, left_by}
use Rattle.wasi_cli.proofs.turns.Turns.free.Goals as goal

retained : (c : goal.After-retain) → c.retain.new.self.items ≡ without c.args.who c.self.inside.waiting.items
retained c = filter_same _ _ _ (λ x b f' k. search rules) _ _ c.retain.ensures.filtered

pub invariant_of-self-else-eq : goal.invariant_of-self-else-eq
invariant_of-self-else-eq c = subst (λ w. IsTurn (record { holder = c.self.inside.holder; waiting = w })) (sym (retained c)) (leaves c.self.inside.holder c.self.inside.waiting.items (λ other. not (same other c.args.who)) c.self.invariant)

pub returns-else-eq : goal.returns-else-eq
returns-else-eq c = ap (λ w. record { holder = c.self.inside.holder; waiting = w }) (retained c) ∙ left_by c.self.inside.holder c.self.inside.waiting.items c.args.who (sym c.eq.ensures ∙ c.if-eq.false) c.self.invariant ∙ ap (λ t. Rattle.wasi_cli.specs.Turns.after_free t c.args.who) c.self.view_is
