use Rattle.std.proofs.Common.{refl}
use Rattle.wasi_fs_nodes.specs.Bodies.{body_without_name}
use Rattle.wasi_fs_nodes.proofs.RowFacts.{rows_changed, links_kept}
use Rattle.wasi_fs_nodes.proofs.rows.take_name.Goals as goal

pub returns-clause-nodes : goal.returns-clause-nodes
returns-clause-nodes c = rows_changed (body_without_name c.args.name.now) c.args.rows.now.items c.args.dir c.index_mut.result.now _ c.index_mut.ensures.value c.take.ensures

pub returns-clause-links : goal.returns-clause-links
returns-clause-links c = links_kept c.args.rows.now.items c.args.dir c.index_mut.result.now _ c.index_mut.ensures.value refl
