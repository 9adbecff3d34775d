use Rattle.std.proofs.Common.{ap, ◌∙◌}
use Rattle.wasi_fs_nodes.specs.Names.{without_entry, entries_of_map}
use Rattle.wasi_fs_nodes.proofs.EntryFacts.{take_bytes}
use Rattle.wasi_fs_nodes.proofs.names.Names.take.Goals as goal

pub returns : goal.returns
returns c =
    ap entries_of_map c.remove.ensures.entries
    ∙ take_bytes c.self.inside.map.entries c.args.name.now
    ∙ ap (λ m. without_entry m c.args.name.now) c.self.view_is
