use Rattle.std.proofs.Common.{ap}
use Rattle.wasi_host.specs.Random.{drawn}
use Rattle.wasi_session.specs.Contexts.{settings_in, sources_in}
use Rattle.wasi_session.proofs.ContextFacts.{there_at, none_at, drew_there, drew_none, err_there}
use Rattle.wasi_session.proofs.contexts.Contexts.draw_named.Goals as goal

pub returns-in-Some-clause-told : goal.returns-in-Some-clause-told
returns-in-Some-clause-told c =
    let found = rw c.in-Some.is at c.get_mut.ensures.value in
    rw (← c.self.view_is, there_at settings_in c.self.inside.main c.self.inside.named.entries c.args.id c.in-Some.context.now found, there_at sources_in c.self.inside.main c.self.inside.named.entries c.args.id c.in-Some.context.now found) c.draw.ensures.told

pub returns-in-Some-clause-left : goal.returns-in-Some-clause-left
returns-in-Some-clause-left c = rw (← c.self.view_is) (drew_there c.self.inside.main c.self.inside.named.entries _ c.args.id c.draw.result c.in-Some.context.now c.draw.new.self (λ settings sources. (drawn c.args.call settings sources).left) (rw c.in-Some.is at c.get_mut.ensures.value) (c.get_mut.follows.holds c.draw.new.self).0 c.draw.ensures.left)

pub returns-in-Some-clause-err : goal.returns-in-Some-clause-err
returns-in-Some-clause-err c = rw (← c.self.view_is) (err_there c.self.inside.main c.self.inside.named.entries _ c.args.id c.draw.result c.in-Some.context.now c.draw.new.self (rw c.in-Some.is at c.get_mut.ensures.value) (c.get_mut.follows.holds c.draw.new.self).0 c.draw.ensures.err)

pub returns-in-None-clause-told : goal.returns-in-None-clause-told
returns-in-None-clause-told c =
    let absent = rw c.in-None.is at c.get_mut.ensures.value in
    rw (← c.self.view_is, none_at settings_in c.self.inside.main c.self.inside.named.entries c.args.id absent, none_at sources_in c.self.inside.main c.self.inside.named.entries c.args.id absent) c.draw-in-None.ensures.told

pub returns-in-None-clause-left : goal.returns-in-None-clause-left
returns-in-None-clause-left c = rw (← c.self.view_is) (drew_none c.self.inside.main c.self.inside.named.entries _ c.args.id c.draw-in-None.result c.draw-in-None.new.self (λ settings sources. (drawn c.args.call settings sources).left) (rw c.in-None.is at c.get_mut.ensures.value) (ap (λ rows. rows.entries) c.get_mut.follows.holds-at-none) c.draw-in-None.ensures.left)
