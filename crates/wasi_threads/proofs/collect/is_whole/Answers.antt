use Rattle.std.proofs.Common.{arith}
use Rattle.std.proofs.lemmas.Bool.Decides.{nat_tests}
use Rattle.wasi_threads.proofs.PartFacts.{whole}
use Rattle.wasi_threads.proofs.collect.is_whole.Goals as goal

pub returns-clause-whole : goal.returns-clause-whole
returns-clause-whole g c = λ yes. whole _ _ c.requires.legal c.requires.begins (grind (arith, nat_tests))
