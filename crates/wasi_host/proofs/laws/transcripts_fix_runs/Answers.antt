use Rattle.wasi_host.proofs.RunFacts.{same_texts}
use Rattle.std.proofs.Common.{◌∙◌, sym}
use Rattle.wasi_reply.specs.Outputs.{output_lines}
use Rattle.wasi_host.proofs.laws.transcripts_fix_runs.Goals as goal

pub returns : goal.returns
returns c = λ steps text before after before' after' one two good good'.
    c.lines_fix_replies.ensures one.answers two.answers (output_lines one.outputs) (output_lines two.outputs) good good' (same_texts steps before after before' after' text one two) (sym one.text_is ∙ two.text_is)
