use Rattle.std.proofs.Common.{Result, IfOk, sym, subst}
use Rattle.wasi_fs_types.specs.declared.error_code.ErrorCode.{ErrorCode}
use Rattle.wasi_fs_paths.specs.Paths.{Place}
use Rattle.wasi_fs_paths.specs.Places.{IsPlace}
use Rattle.wasi_fs_paths.proofs.PlaceFacts.{if_resolved, lent_place}
use Rattle.wasi_fs_paths.proofs.walk.resolve.Goals as goal

pub returns-clause-place : goal.returns-clause-place
returns-clause-place c =
    let P : Result Place ErrorCode → Type 0 = λ r. IfOk r (IsPlace c.args.nodes.now) in
    lent_place c.args.nodes.now c.look.result
    (subst P (sym c.look.ensures) (if_resolved c.args.nodes.now c.root.ensures.sound c.args.start c.args.wish c.args.path.now c.requires))
