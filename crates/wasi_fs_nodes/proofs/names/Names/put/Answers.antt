use Rattle.std.specs.Prelude.{string_bytes}
use Rattle.std.proofs.Common.{ap, ◌∙◌}
use Rattle.wasi_fs_nodes.specs.Names.{with_entry, entries_of_map}
use Rattle.wasi_fs_nodes.proofs.EntryFacts.{put_bytes}
use Rattle.wasi_fs_nodes.proofs.names.Names.put.Goals as goal

pub returns-clause-ok : goal.returns-clause-ok
returns-clause-ok c =
    ap entries_of_map c.in_ok-insert.ensures.entries
    ∙ put_bytes c.self.inside.map.entries c.in_ok-key.key c.args.node
    ∙ ap (λ m. with_entry m (string_bytes c.in_ok-key.key) c.args.node) c.self.view_is
    ∙ ap (λ k. with_entry c.args.self.now k c.args.node) c.in_ok-key.ensures.ok
