use Rattle.wasi_fs.specs.Calls.{symlink_made}
use Rattle.wasi_fs.proofs.KeptFacts.{left_kept}
use Rattle.wasi_fs.proofs.tree.Tree.symlink_at.Goals as goal

pub returns-clause-kept : goal.returns-clause-kept
returns-clause-kept c =
    left_kept c.args.self.now c.make_symlink.new.self c.make_symlink.result (symlink_made c.args.self.now.nodes c.args.at.now c.args.text.now c.args.path.now c.args.now) c.make_symlink.ensures
    (c.calls_keep_kinds.ensures.symlink c.args.self.now.nodes c.args.at.now c.args.text.now c.args.path.now c.args.now)
