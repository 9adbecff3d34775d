use Rattle.std.proofs.Common.{◌≡◌, ◌++◌, length, take}
use Rattle.std.specs.Prelude.{map}
use Rattle.wasi_reply.specs.Outputs.{output_lines}
use Rattle.wasi_host.specs.OutStreams.{taken_of}
use Rattle.wasi_host.specs.Transcript.{outputs_of}
use Rattle.wasi_script.specs.Rows.{rows_of}
use Rattle.wasi_session.proofs.streams.Streams.outputs.Given as goal

-- the text so far, with the lines of the rows that are left, is the whole text
abbrev pub invariant-loop-name : goal.invariant-loop-name
invariant-loop-name l = record {
  so_far : l.text.items ++ output_lines (map (λ row. (row.0, taken_of row.1)) (rows_of l.name-iterator)) ≡ l.fn.text.items ++ output_lines (outputs_of l.self);
  front : take (length l.fn.text.items) l.text.items ≡ l.fn.text.items;
}
