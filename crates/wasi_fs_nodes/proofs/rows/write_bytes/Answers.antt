use Rattle.std.proofs.Common.{List, ℕ, refl, ap, sym, ◌∙◌}
use Rattle.wasi_fs_nodes.specs.Bodies.{body_with_bytes}
use Rattle.wasi_fs_nodes.specs.Content.{written}
use Rattle.wasi_fs_nodes.specs.Counts.{nodes_in}
use Rattle.wasi_fs_nodes.specs.Nodes.{bytes_at}
use Rattle.wasi_fs_nodes.proofs.RowFacts.{bytes_read, rows_changed, links_kept}
use Rattle.wasi_fs_nodes.proofs.rows.write_bytes.Goals as goal

pub returns-clause-nodes : goal.returns-clause-nodes
returns-clause-nodes c =
    let before = c.index_mut.result.now in
    let same = bytes_read c.args.rows.now.items c.args.file before c.requires.within c.index_mut.ensures.value in
    rows_changed (body_with_bytes (written (bytes_at (nodes_in c.args.rows.now.items) c.args.file) c.args.place c.args.more.now)) c.args.rows.now.items c.args.file before _ c.index_mut.ensures.value
    (c.in_ok-write_at.ensures.ok ∙ ap (λ (bytes : List ℕ). body_with_bytes (written bytes c.args.place c.args.more.now) before.node.body) (sym same))

pub returns-clause-links : goal.returns-clause-links
returns-clause-links c = links_kept c.args.rows.now.items c.args.file c.index_mut.result.now _ c.index_mut.ensures.value refl
