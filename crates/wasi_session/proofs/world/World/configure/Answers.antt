use Rattle.wasi_host.specs.Host.{Host, configured}
use Rattle.wasi_host.specs.laws.Steps.{within}
use Rattle.wasi_session.proofs.GuestFacts.{changed_done}
use Rattle.wasi_session.proofs.world.World.configure.Goals as goal

pub returns-clause-ok : goal.returns-clause-ok
returns-clause-ok c =
    let host : Host = record { shared = c.self.inside.core; guests = c.self.inside.guests.items; streams = c.self.inside.streams; clocks = c.self.inside.clocks } in
    rw (← c.self.view_is) (changed_done c.configure.result (configured c.args.setting.now c.args.context.named) host c.args.context.guest c.in-Some.guest c.configure.new.self c.index_mut.result.now (within host.guests c.args.context.guest (rw (← c.self.view_is) at c.requires.there)) c.index_mut.ensures.value c.in-Some.is c.configure.ensures.ok)
