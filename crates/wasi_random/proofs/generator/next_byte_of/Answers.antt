use Rattle.std.proofs.lemmas.Grind.{common_steps}
use Rattle.std.proofs.Common.{◌≡◌, ◌%◌, ◌^◌, bit_and, arith}
use Rattle.wasi_random.proofs.DrawFacts.{told_byte}
use Rattle.wasi_random.proofs.generator.next_byte_of.Goals as goal

pub returns : goal.returns
returns g c =
    let low : bit_and c.next_word_of.result 255 ≡ c.next_word_of.result % 2 ^ 8 = grind (arith, common_steps) in
    rw low (told_byte _ _ _ c.next_word_of.ensures)
