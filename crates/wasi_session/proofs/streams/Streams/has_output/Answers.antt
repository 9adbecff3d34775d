use Rattle.std.proofs.Common.{◌∙◌, ap}
use Rattle.wasi_script.specs.Grammar.{is_among}
use Rattle.wasi_host.specs.Host.{Streams, names_in}
use Rattle.wasi_script.specs.laws.Rows.{row_named}
use Rattle.wasi_session.proofs.streams.Streams.has_output.Goals as goal

pub returns : goal.returns
returns c = c.contains_key.ensures ∙ row_named c.self.inside.outputs.entries c.args.name.now ∙ ap (λ (streams : Streams). is_among c.args.name.now (names_in streams.outputs)) c.self.view_is
