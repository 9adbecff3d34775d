use Rattle.std.proofs.Common.{length, ap, ◌∙◌}
use Rattle.std.specs.Option.{unwrap_or}
use Rattle.wasi_explain.specs.Explained.{is_line_end}
use Rattle.wasi_explain.proofs.LineFacts.{place_or_length}
use Rattle.wasi_explain.proofs.lines.first_end.Goals as goal

pub returns : goal.returns
returns c = c.unwrap_or.ensures ∙ ap (λ found. unwrap_or found (length c.args.text.now)) c.newline_in.ensures ∙ place_or_length is_line_end c.args.text.now
