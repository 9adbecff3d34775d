-- Up to the last unit that is no separator, or else at most one unit.
use Rattle.std.proofs.Common.{◌≡◌, ◌+◌, ◌-◌, false, subst, sym, inl, inr, get_or, arith}
use Rattle.wasi_winrules.proofs.PathFacts.{stripped}
use Rattle.wasi_winrules.specs.Paths.{is_separator}
use Rattle.wasi_winrules.proofs.path.strip_dir_suffix.Goals as goal

pub returns-in-Some : goal.returns-in-Some
returns-in-Some c =
    let is = c.in-Some.ensures in
    let same : c.in-Some.last + 1 - 1 ≡ c.in-Some.last = omega arith in
    stripped c.args.path.now (c.in-Some.last + 1) (omega arith) (λ _. omega arith) is.2
    (inr (subst (λ n. is_separator (get_or c.args.path.now n 0) ≡ false) (sym same) is.1))

pub returns-in-None : goal.returns-in-None
returns-in-None c =
    stripped c.args.path.now c.min.result (omega arith) (λ some. omega arith) (λ k d low high. c.in-None.ensures k d (omega arith) high) (inl (omega arith))
