-- The prefix is dropped as bytes.
use Rattle.std.proofs.Common.{◌++◌, ap, sym, ◌∙◌, Some, None}
use Rattle.std.proofs.lemmas.Slice.Eq.{strip_prefix_is}
use Rattle.std.proofs.lemmas.Bool.Decides.{Decides-eqb}
use Rattle.wasi_winrules.proofs.UnitFacts.{shown_prefixed, shown_plain}
use Rattle.wasi_winrules.proofs.reparse.without_prefix.Goals as goal

pub returns-in-Some : goal.returns-in-Some
returns-in-Some c =
    let is = c.in-Some.ensures in
    let found = strip_prefix_is Decides-eqb c.args.name.now c.as_slice.result.now (Some c.in-Some.rest) is.cases in
    shown_prefixed c.args.name.now c.in-Some.rest.now (found ∙ ap (λ p. p ++ c.in-Some.rest.now) c.as_slice.ensures)

pub returns-in-None : goal.returns-in-None
returns-in-None c =
    let is = c.in-None.ensures in
    let plain = strip_prefix_is Decides-eqb c.args.name.now c.as_slice.result.now None is.cases in
    shown_plain c.args.name.now (λ rest same. plain rest (same ∙ ap (λ p. p ++ rest) (sym c.as_slice.ensures)))
