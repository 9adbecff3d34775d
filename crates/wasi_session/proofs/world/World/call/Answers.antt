use Rattle.wasi_host.specs.Host.{Host}
use Rattle.wasi_host.specs.laws.Steps.{within}
use Rattle.wasi_session.proofs.GuestFacts.{called_done}
use Rattle.wasi_session.proofs.world.World.call.Goals as goal

pub returns-clause-reply : goal.returns-clause-reply
returns-clause-reply c =
    let host : Host = record { shared = c.self.inside.core; guests = c.self.inside.guests.items; streams = c.self.inside.streams; clocks = c.self.inside.clocks } in
    rw (← c.self.view_is) (called_done c.call.result host c.call.new.core c.call.new.streams c.args.caller c.args.call.now c.in-Some.it c.call.new.self c.index_mut.result.now (within host.guests c.args.caller.guest (rw (← c.self.view_is) at c.requires)) c.index_mut.ensures.value c.in-Some.is c.call.ensures.done).0

pub returns-clause-after : goal.returns-clause-after
returns-clause-after c =
    let host : Host = record { shared = c.self.inside.core; guests = c.self.inside.guests.items; streams = c.self.inside.streams; clocks = c.self.inside.clocks } in
    rw (← c.self.view_is) (called_done c.call.result host c.call.new.core c.call.new.streams c.args.caller c.args.call.now c.in-Some.it c.call.new.self c.index_mut.result.now (within host.guests c.args.caller.guest (rw (← c.self.view_is) at c.requires)) c.index_mut.ensures.value c.in-Some.is c.call.ensures.done).1
