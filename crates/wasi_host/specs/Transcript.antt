-- The whole transcript of a session over a source that tells, and the run that it shows.
use Rattle.std.specs.Prelude.{◌≡◌, ℕ, List, ◌++◌, map, take, drop, Option, Some}
use Rattle.std.specs.List.{IsDistinct}
use Rattle.std.specs.Str.{bytes_eq}
use Rattle.wasi_base.specs.Source.{Told}
use Rattle.wasi_base.specs.Sink.{with_more}
use Rattle.wasi_script.specs.declared.lines.Line.{Line}
use Rattle.wasi_script.specs.Grammar.{parsed, steps_of, IsGood, no_names, names_end}
use Rattle.wasi_reply.specs.declared.reply.Reply.{Reply}
use Rattle.wasi_reply.specs.Reply.{text_of, text_of_all}
use Rattle.wasi_reply.specs.Lines.{lines_in}
use Rattle.wasi_reply.specs.Outputs.{output_lines}
use Rattle.wasi_host.specs.OutStreams.{taken_of}
use Rattle.wasi_host.specs.Host.{Streams, new_host, replies, host_end, told_end}
use Rattle.wasi_host.specs.Run.{Sharing, IsRun, at_start, held}
use Rattle.wasi_host.specs.View.{GuestsAreAlone}

-- the declared outputs with what they took, in order of declaration
abbrev pub outputs_of : Streams → List (List ℕ × List ℕ)
outputs_of streams = map (λ row. (row.0, taken_of row.1)) streams.outputs

-- the text of a whole run, the replies and then the outputs, and what is told after it
abbrev pub transcript : List Line → Told → List ℕ
transcript steps told = text_of_all (replies steps new_host told) ++ output_lines (outputs_of (host_end steps new_host told).streams)

abbrev pub told_after_run : List Line → Told → Told
told_after_run steps told = told_end steps new_host told

-- The text is that of one run on the shared input: the run's replies, a line each, so that they are fixed by it, and
-- then the declared outputs, each once. All bytes that its guests were handed or skipped, in order, and then those that are held
-- are what the input gave, and the source is left as the run's deliveries left it.
pub record ShowsRun (steps : List Line) (before after : Told) (text : List ℕ) : Type 0 where
  pub answers : List Reply
  pub bytes : List ℕ
  pub last : Sharing
  pub run : IsRun before.left (at_start before) steps answers bytes last
  pub outputs : List (List ℕ × List ℕ)
  pub declared : map (λ output. output.0) outputs ≡ (names_end no_names steps).outputs
  pub distinct : IsDistinct bytes_eq (map (λ output. output.0) outputs)
  pub text_is : text ≡ text_of_all answers ++ output_lines outputs
  pub lines_are : lines_in text ≡ map text_of answers ++ lines_in (output_lines outputs)
  pub told_is : last.told ≡ after
  pub given_is : bytes ++ held before.left last ≡ take last.given before.left
  pub left_is : after.left ≡ drop last.given before.left

-- a session over a script and an input that tell, at its good end
pub record IsDone (script : List ℕ) (input : Told) (taken_before taken_after : Option (List ℕ)) (told_after : Option Told) : Type 0 where
  pub good : IsGood (parsed script)
  pub out : taken_after ≡ with_more taken_before (transcript (steps_of (parsed script)) input)
  pub stdin : told_after ≡ Some (told_after_run (steps_of (parsed script)) input)
  pub headline : ShowsRun (steps_of (parsed script)) input (told_after_run (steps_of (parsed script)) input) (transcript (steps_of (parsed script)) input)
  pub alone : GuestsAreAlone (steps_of (parsed script)) input
