use Rattle.std.proofs.Common.{sym, ap, ◌∙◌}
use Rattle.wasi_fs_nodes.specs.Names.{entry_of}
use Rattle.wasi_fs_nodes.proofs.EntryFacts.{find_bytes}
use Rattle.wasi_fs_nodes.proofs.names.Names.find.Goals as goal

pub returns : goal.returns
returns c = c.copied.ensures ∙ c.get.ensures.value ∙ sym (find_bytes c.self.inside.map.entries c.args.name.now) ∙ ap (λ m. entry_of m c.args.name.now) c.self.view_is
