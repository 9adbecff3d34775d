use Rattle.std.proofs.Common.{refl}
use Rattle.wasi_fs_nodes.specs.Bodies.{body_resized}
use Rattle.wasi_fs_nodes.proofs.RowFacts.{rows_changed, links_kept}
use Rattle.wasi_fs_nodes.proofs.rows.resize_file.Goals as goal

pub returns-clause-nodes : goal.returns-clause-nodes
returns-clause-nodes c = rows_changed (body_resized c.args.size) c.args.rows.now.items c.args.file c.index_mut.result.now _ c.index_mut.ensures.value c.in_ok-resize.ensures.ok

pub returns-clause-links : goal.returns-clause-links
returns-clause-links c = links_kept c.args.rows.now.items c.args.file c.index_mut.result.now _ c.index_mut.ensures.value refl
