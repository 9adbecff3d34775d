-- A run has a reply for each step.
use Rattle.std.proofs.Common.{◌≡◌, ℕ, List, [], ◌∷◌, length, refl, sym, ◌∙◌}
use Rattle.wasi_base.specs.Source.{Told}
use Rattle.wasi_script.specs.declared.lines.Line.{Line}
use Rattle.wasi_reply.specs.declared.reply.Reply.{Reply}
use Rattle.wasi_host.specs.Run.{Sharing, IsRun, at_start}
use Rattle.wasi_host.specs.Transcript.{ShowsRun}

pub as_many : (input : List ℕ) (s s' : Sharing) (steps : List Line) (answers : List Reply) (bytes : List ℕ) → IsRun input s steps answers bytes s' → length answers ≡ length steps
as_many input s s' [] [] bytes run = refl
as_many input s s' (step ∷ steps) (answer ∷ answers) bytes run = let rest = as_many input run.mid s' steps answers run.more run.rest in cc
as_many input s s' [] (answer ∷ answers) bytes run = absurd run
as_many input s s' (step ∷ steps) [] bytes run = absurd run

pub same_texts : (steps : List Line) (before after before' after' : Told) (text : List ℕ) (one : ShowsRun steps before after text) (two : ShowsRun steps before' after' text) → length one.answers ≡ length two.answers
same_texts steps before after before' after' text one two =
    as_many before.left (at_start before) one.last steps one.answers one.bytes one.run ∙ sym (as_many before'.left (at_start before') two.last steps two.answers two.bytes two.run)
