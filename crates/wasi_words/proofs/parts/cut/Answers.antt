use Rattle.std.proofs.Common.{◌+◌, ◌∙◌, sym}
use Rattle.std.specs.Prelude.{nat_eq}
use Rattle.std.proofs.lemmas.List.{take_rest}
use Rattle.wasi_words.proofs.Cuts.{slice_split_found, slice_split_absent}
use Rattle.wasi_words.proofs.parts.cut.Goals as goal

pub returns-in-Some : goal.returns-in-Some
returns-in-Some c = rw (take_rest c.args.text.now (c.in-Some.place + 1)) (slice_split_found (λ byte. nat_eq byte c.args.separator) c.args.text.now c.in-Some.place (sym c.place_of.ensures ∙ c.in-Some.is))

pub returns-in-None : goal.returns-in-None
returns-in-None c = slice_split_absent (λ byte. nat_eq byte c.args.separator) c.args.text.now (sym c.place_of.ensures ∙ c.in-None.is)
