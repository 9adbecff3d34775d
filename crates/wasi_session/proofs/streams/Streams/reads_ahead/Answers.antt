use Rattle.std.proofs.Common.{ap, sym, ◌∙◌}
use Rattle.wasi_script.specs.laws.Rows.{rows_lookup}
use Rattle.wasi_host.specs.Host.{Streams, is_reader, reads_ahead_in}
use Rattle.wasi_session.proofs.streams.Streams.reads_ahead.Goals as goal

pub returns-in-Some : goal.returns-in-Some
returns-in-Some c =
    c.is_reader.ensures
    ∙ ap is_reader ((rw c.in-Some.is at c.get.ensures.value) ∙ sym (rows_lookup c.args.name.now c.self.inside.inputs.entries))
    ∙ ap (λ (streams : Streams). reads_ahead_in streams c.args.name.now) c.self.view_is

pub returns-in-None : goal.returns-in-None
returns-in-None c =
    ap is_reader ((rw c.in-None.is at c.get.ensures.value) ∙ sym (rows_lookup c.args.name.now c.self.inside.inputs.entries))
    ∙ ap (λ (streams : Streams). reads_ahead_in streams c.args.name.now) c.self.view_is
