use Rattle.std.proofs.Common.{◌∙◌, ap}
use Rattle.wasi_script.specs.Declarations.{stream_names}
use Rattle.wasi_script.specs.Grammar.{is_among}
use Rattle.wasi_script.specs.laws.Rows.{row_named}
use Rattle.wasi_script.proofs.name_set.NameSet.contains.Goals as goal

pub returns : goal.returns
returns c = c.contains_key.ensures ∙ row_named c.self.inside.names.entries c.args.name.now ∙ ap (λ streams. is_among c.args.name.now (stream_names streams)) c.self.view_is
