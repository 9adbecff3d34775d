use Rattle.std.proofs.Common.{ap}
use Rattle.wasi_host.specs.Host.{settings_set, sources_set}
use Rattle.wasi_session.proofs.ContextFacts.{set_there, set_none, err_there}
use Rattle.wasi_session.proofs.contexts.Contexts.configure_named.Goals as goal

pub returns-in-Some-clause-ok : goal.returns-in-Some-clause-ok
returns-in-Some-clause-ok c = rw (← c.self.view_is) (set_there c.self.inside.main c.self.inside.named.entries _ c.args.id c.configure.result c.in-Some.context.now c.configure.new.self (settings_set c.args.setting.now) (sources_set c.args.setting.now) (rw c.in-Some.is at c.get_mut.ensures.value) (c.get_mut.follows.holds c.configure.new.self).0 c.configure.ensures.ok)

pub returns-in-Some-clause-err : goal.returns-in-Some-clause-err
returns-in-Some-clause-err c = rw (← c.self.view_is) (err_there c.self.inside.main c.self.inside.named.entries _ c.args.id c.configure.result c.in-Some.context.now c.configure.new.self (rw c.in-Some.is at c.get_mut.ensures.value) (c.get_mut.follows.holds c.configure.new.self).0 c.configure.ensures.err)

pub returns-in-None-clause-ok : goal.returns-in-None-clause-ok
returns-in-None-clause-ok c = rw (← c.self.view_is) (set_none c.self.inside.main c.self.inside.named.entries _ c.args.id c.configure-in-None.result c.configure-in-None.new.self (settings_set c.args.setting.now) (sources_set c.args.setting.now) (rw c.in-None.is at c.get_mut.ensures.value) (ap (λ rows. rows.entries) c.get_mut.follows.holds-at-none) c.configure-in-None.ensures.ok)
