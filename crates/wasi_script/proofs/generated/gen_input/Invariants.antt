use Rattle.std.proofs.Common.{◌≡◌, ◌+◌, ◌-◌, ◌%◌, ◌++◌, map}
use Rattle.std.specs.List.{range_with_len}
use Rattle.wasi_script.specs.Generated.{generated_input}
use Rattle.wasi_script.proofs.generated.gen_input.Given as goal

-- the bytes so far, and then those to come
abbrev pub invariant-loop-at : goal.invariant-loop-at
invariant-loop-at l = record {
  whole : l.input.items ++ map (λ byte. byte % 256) (range_with_len (l.number + l.at) (l.length - l.at)) ≡ generated_input l.number l.lines;
}
