use Rattle.std.proofs.Common.{ap, sym, ◌∙◌}
use Rattle.wasi_script.specs.laws.Rows.{rows_lookup}
use Rattle.wasi_host.specs.Host.{Streams, is_writer, writes_behind_in}
use Rattle.wasi_session.proofs.streams.Streams.writes_behind.Goals as goal

pub returns-in-Some : goal.returns-in-Some
returns-in-Some c =
    c.is_writer.ensures
    ∙ ap is_writer ((rw c.in-Some.is at c.get.ensures.value) ∙ sym (rows_lookup c.args.name.now c.self.inside.outputs.entries))
    ∙ ap (λ (streams : Streams). writes_behind_in streams c.args.name.now) c.self.view_is

pub returns-in-None : goal.returns-in-None
returns-in-None c =
    ap is_writer ((rw c.in-None.is at c.get.ensures.value) ∙ sym (rows_lookup c.args.name.now c.self.inside.outputs.entries))
    ∙ ap (λ (streams : Streams). writes_behind_in streams c.args.name.now) c.self.view_is
