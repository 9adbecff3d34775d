use Rattle.std.proofs.Common.{◌<◌, ℕ, length, Result, IfOk, ap, sym, ◌∙◌, subst}
use Rattle.std.specs.Option.{ok_or}
use Rattle.wasi_fs_types.specs.declared.error_code.ErrorCode.{ErrorCode}
use Rattle.wasi_fs_types.specs.declared.error_code.ErrorCode.TheVariants as code
use Rattle.wasi_fs_paths.specs.Places.{place_of}
use Rattle.wasi_fs_paths.proofs.PlaceFacts.{ok_made}
use Rattle.wasi_fs_paths.proofs.walk.find.Goals as goal

pub returns-clause-made : goal.returns-clause-made
returns-clause-made c =
    let P : Result ℕ ErrorCode → Type 0 = λ r. IfOk r (λ n. n < length c.args.nodes.now) in
    subst P (sym (c.ok_or.ensures.value ∙ ap (λ o. ok_or o code.NoEntry) c.node.ensures)) (ok_made c.args.nodes.now c.root.ensures.sound.named (place_of c.in_ok-place.place) c.in_ok-place.ensures.place)
