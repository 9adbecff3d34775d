use Rattle.wasi_fs.specs.Calls.{file_unlinked}
use Rattle.wasi_fs.proofs.KeptFacts.{always_kept}
use Rattle.wasi_fs.proofs.tree.Tree.unlink_file_at.Goals as goal

pub returns-clause-kept : goal.returns-clause-kept
returns-clause-kept c =
    always_kept c.args.self.now c.take_name.new.self c.take_name.result (file_unlinked c.args.self.now.nodes c.args.at.now c.args.path.now) c.take_name.ensures
    (c.calls_keep_kinds.ensures.unlink c.args.self.now.nodes c.args.at.now c.args.path.now)
