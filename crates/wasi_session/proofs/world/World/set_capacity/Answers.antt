use Rattle.wasi_host.specs.Host.{Host, with_capacity}
use Rattle.wasi_host.specs.laws.Steps.{within}
use Rattle.wasi_session.proofs.GuestFacts.{changed_now}
use Rattle.wasi_session.proofs.world.World.set_capacity.Goals as goal

pub returns : goal.returns
returns c =
    let host : Host = record { shared = c.self.inside.core; guests = c.self.inside.guests.items; streams = c.self.inside.streams; clocks = c.self.inside.clocks } in
    rw (← c.self.view_is) (changed_now (with_capacity c.args.capacity) host c.args.guest c.in-Some.guest c.resize.new.self c.index_mut.result.now (within host.guests c.args.guest (rw (← c.self.view_is) at c.requires.there)) c.index_mut.ensures.value c.in-Some.is c.resize.ensures)
