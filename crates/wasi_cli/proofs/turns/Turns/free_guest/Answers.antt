-- A guest that ends leaves those that wait, and passes its turn on.
use Rattle.std.proofs.Common.{◌≡◌, ◌∙◌, ap, sym, subst, not, List, Option, rules}
use Rattle.std.specs.Prelude.{◌==◌}
use Rattle.std.proofs.lemmas.Fn.{filter_same}
use Rattle.wasi_cli.specs.declared.owner.Owner.{Owner}
use Rattle.wasi_cli.specs.Turns.{IsTurn, without_guest, passed, after_end, after_end_by}
use Rattle.wasi_cli.proofs.TurnFacts.{leaves_guest, passes, popped, passed_is, ends_held, ends_apart}
use Rattle.wasi_cli.proofs.turns.Turns.free_guest.Goals as goal

kept : (c : goal.Else-holder-guest) → c.retain.new.self.items ≡ without_guest c.args.guest c.self.inside.waiting.items
kept c = filter_same _ _ _ (λ x b f' k. search rules) _ _ c.retain.ensures.filtered

kept_first : (c : goal.After-self-1) → c.retain.new.self.items ≡ without_guest c.args.guest c.self.inside.waiting.items
kept_first c = filter_same _ _ _ (λ x b f' k. search rules) _ _ c.retain.ensures.filtered

pub invariant_of-self : goal.invariant_of-self
invariant_of-self c = passes c.self.inside.holder c.pop_front-self-inside.result c.retain.new.self.items c.pop_front-self-inside.new.self.items (popped _ _ _ c.pop_front-self-inside.ensures.items c.pop_front-self-inside.ensures.rest) (leaves_guest c.self.inside.holder c.self.inside.waiting.items c.retain.new.self.items c.args.guest (kept_first c) c.self.invariant)

pub invariant_of-self-else-holder-guest : goal.invariant_of-self-else-holder-guest
invariant_of-self-else-holder-guest c = leaves_guest c.self.inside.holder c.self.inside.waiting.items c.retain.new.self.items c.args.guest (kept c) c.self.invariant

pub returns-in-Some : goal.returns-in-Some
returns-in-Some c =
    passed_is c.pop_front-self-inside.result c.retain.new.self.items c.pop_front-self-inside.new.self.items (popped _ _ _ c.pop_front-self-inside.ensures.items c.pop_front-self-inside.ensures.rest)
    ∙ ap passed (kept_first c)
    ∙ ends_held c.in-Some.holder c.self.inside.waiting.items c.args.guest c.if-holder-guest.true
    ∙ ap (λ holder. after_end_by holder c.self.inside.waiting.items c.args.guest) (sym c.in-Some.is)
    ∙ ap (λ turn. after_end turn c.args.guest) c.self.view_is

pub returns-else-holder-guest : goal.returns-else-holder-guest
returns-else-holder-guest c =
    ap (λ w. record { holder = c.self.inside.holder; waiting = w }) (kept c)
    ∙ ap (λ holder. record { holder = holder; waiting = without_guest c.args.guest c.self.inside.waiting.items }) c.in-Some.is
    ∙ ends_apart c.in-Some.holder c.self.inside.waiting.items c.args.guest c.if-holder-guest.false
    ∙ ap (λ holder. after_end_by holder c.self.inside.waiting.items c.args.guest) (sym c.in-Some.is)
    ∙ ap (λ turn. after_end turn c.args.guest) c.self.view_is
