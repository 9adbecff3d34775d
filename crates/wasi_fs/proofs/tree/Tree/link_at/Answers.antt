use Rattle.wasi_fs.specs.Calls.{link_made}
use Rattle.wasi_fs.proofs.KeptFacts.{left_kept}
use Rattle.wasi_fs.proofs.tree.Tree.link_at.Goals as goal

pub returns-clause-kept : goal.returns-clause-kept
returns-clause-kept c =
    left_kept c.args.self.now c.add_name.new.self c.add_name.result (link_made c.args.self.now.nodes c.args.at.now c.args.flags c.args.path.now c.args.to.now c.args.to_path.now) c.add_name.ensures
    (c.calls_keep_kinds.ensures.link c.args.self.now.nodes c.args.at.now c.args.flags c.args.path.now c.args.to.now c.args.to_path.now)
