use Rattle.wasi_winrules.proofs.NameFacts.{word_agrees}
use Rattle.wasi_winrules.proofs.device.is_word.Goals as goal

pub returns-then-units-word : goal.returns-then-units-word
returns-then-units-word c = word_agrees c.args.units.now c.args.word.now c.agrees.result c.if-units-word.true c.agrees.ensures
