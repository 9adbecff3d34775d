use Rattle.std.proofs.Common.{ap, sym, ◌∙◌}
use Rattle.wasi_fs_nodes.specs.Names.{with_other, entries_of_map}
use Rattle.wasi_fs_nodes.specs.declared.names.Names.TheInside.{Inside}
use Rattle.wasi_fs_nodes.proofs.EntryFacts.{replace_bytes, absent_same}
use Rattle.wasi_fs_nodes.proofs.names.Names.replace.Goals as goal
use Rattle.wasi_fs_nodes.proofs.names.Names.replace.Goals.{in-Some, in_default}

pub returns : goal.returns
returns c =
    let over = replace_bytes c.self.inside.map.entries c.args.name.now c.args.node ∙ ap (λ m. with_other m c.args.name.now c.args.node) c.self.view_is in
    elim c.match-get_mut.branch [
      | in-Some w ↦ ap (λ (i : Inside). entries_of_map i.map.entries) w.self-inside-is ∙ ap entries_of_map (c.get_mut.follows.holds c.args.node).0 ∙ over
      | in_default w ↦
          ap (λ (i : Inside). entries_of_map i.map.entries) w.self-inside-is
          ∙ ap (λ m. entries_of_map m.entries) c.get_mut.follows.holds-at-none
          ∙ ap entries_of_map (sym (absent_same c.self.inside.map.entries c.args.name.now c.args.node (sym (rw w.in_default.is at c.get_mut.ensures.value)))) ∙ over
    ]
