use Rattle.std.proofs.Common.{◌≡◌, ◌-◌, ◌<◌, ◌++◌}
use Rattle.wasi_script.specs.Generated.{numbers_after, texts_of, generated_script}
use Rattle.wasi_script.proofs.generated.generate_text.Given as goal

-- the text so far, and then the lines of the numbers to come
abbrev pub invariant-loop-line : goal.invariant-loop-line
invariant-loop-line l = record {
  whole : l.text.items ++ texts_of (numbers_after l.at (l.lines - l._line)) ≡ generated_script l.number l.lines;
}
