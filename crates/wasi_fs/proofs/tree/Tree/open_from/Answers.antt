use Rattle.std.proofs.Common.{◌≡◌, Some, sym, subst}
use Rattle.wasi_fs_nodes.specs.Nodes.{kind_at}
use Rattle.wasi_fs_nodes.specs.declared.node.Kind.TheVariants as kind
use Rattle.wasi_fs.specs.Opening.{opened_from}
use Rattle.wasi_fs.specs.Trees.{TreeState}
use Rattle.wasi_fs.proofs.OutcomeFacts.{change_gives}
use Rattle.wasi_fs.proofs.tree.Tree.open_from.Goals as goal

pub open_path-requires : goal.open_path-requires
open_path-requires c =
    let P : TreeState → Type 0 = λ t. kind_at t.nodes c.args.opening.from.node ≡ Some kind.Directory in
    subst P (sym c.self.view_is) c.requires.made

pub returns : goal.returns
returns c = change_gives _ _ c.self.view_is c.open_path.new.nodes c.open_path.result c.from_store.result c.from_store.ensures
    (λ nodes. opened_from nodes c.args.opening c.args.path_flags c.args.path.now c.args.now) c.open_path.ensures
