use Rattle.std.proofs.Common.{Some, ap, sym, ◌∙◌}
use Rattle.wasi_host.specs.Host.{Host, with_context, has_context_in}
use Rattle.wasi_host.specs.laws.Steps.{within}
use Rattle.wasi_session.proofs.GuestFacts.{changed_done, guest_there}
use Rattle.wasi_session.proofs.world.World.declare_context.Goals as goal

pub add_context-requires : goal.add_context-requires
add_context-requires c =
    let host : Host = record { shared = c.self.inside.core; guests = c.self.inside.guests.items; streams = c.self.inside.streams; clocks = c.self.inside.clocks } in
    let there = guest_there host c.args.guest c.in-Some.guest c.index_mut.result.now (within host.guests c.args.guest (rw (← c.self.view_is) at c.requires.there)) c.index_mut.ensures.value c.in-Some.is in
    sym (ap (has_context_in (Some c.args.id)) there) ∙ (rw (← c.self.view_is) at c.requires.new)

pub returns-clause-ok : goal.returns-clause-ok
returns-clause-ok c =
    let host : Host = record { shared = c.self.inside.core; guests = c.self.inside.guests.items; streams = c.self.inside.streams; clocks = c.self.inside.clocks } in
    rw (← c.self.view_is, ← c.in_ok-input.ensures) (changed_done c.add_context.result (with_context c.args.id c.in_ok-input.input) host c.args.guest c.in-Some.guest c.add_context.new.self c.index_mut.result.now (within host.guests c.args.guest (rw (← c.self.view_is) at c.requires.there)) c.index_mut.ensures.value c.in-Some.is c.add_context.ensures.ok)
