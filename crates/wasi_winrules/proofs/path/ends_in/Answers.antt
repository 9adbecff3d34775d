-- What `ends_with` says of units.
use Rattle.std.proofs.lemmas.Slice.Eq.{ends_is}
use Rattle.std.proofs.lemmas.Bool.Decides.{Decides-eqb}
use Rattle.wasi_winrules.proofs.path.ends_in.Goals as goal

pub returns : goal.returns
returns c =
    let is = ends_is Decides-eqb c.args.path.now c.args.end.now _ c.ends_with.ensures.value in
    ((λ yes. (_, is.0 yes)), (λ ends. is.1 ends.0 ends.1))
