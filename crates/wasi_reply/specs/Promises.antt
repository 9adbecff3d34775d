-- The laws on replies and their texts, each the contract of a function of its own.
use Rattle.std.specs.Prelude.{◌≡◌, ◌≢◌, ℕ, List, ◌++◌, length, map}
use Rattle.std.specs.List.{All, AllByRecursion}
use Rattle.wasi_reply.specs.declared.reply.Reply.{Reply}
use Rattle.wasi_reply.specs.Lines.{lines_in}
use Rattle.wasi_reply.specs.Reply.{IsReply, text_of, text_of_all}
use Rattle.wasi_reply.specs.Outputs.{IsOutput, output_lines}

-- no text of a reply holds a line's end
abbrev pub AreOneLine : Type 0
AreOneLine = (reply : Reply) → All (λ byte. byte ≢ 10) (text_of reply)

-- so the lines of a text that begins with replies are the replies' texts
abbrev pub RepliesAreLines : Type 0
RepliesAreLines = (replies : List Reply) (rest : List ℕ) → lines_in (text_of_all replies ++ rest) ≡ map text_of replies ++ lines_in rest

-- replies with one text are one reply
abbrev pub TextsFixReplies : Type 0
TextsFixReplies = (reply other : Reply) → IsReply reply → IsReply other → text_of reply ≡ text_of other → reply ≡ other

-- two texts that begin with as many replies and are the same begin with the same replies
abbrev pub LinesFixReplies : Type 0
LinesFixReplies = (replies others : List Reply) (rest more : List ℕ) → AllByRecursion IsReply replies → AllByRecursion IsReply others → length replies ≡ length others → text_of_all replies ++ rest ≡ text_of_all others ++ more → replies ≡ others

-- the lines of the outputs fix their names and what they took
abbrev pub LinesFixOutputs : Type 0
LinesFixOutputs = (outputs others : List (List ℕ × List ℕ)) → AllByRecursion IsOutput outputs → AllByRecursion IsOutput others → output_lines outputs ≡ output_lines others → outputs ≡ others

-- so two transcripts that are the same are of the same replies and the same outputs
abbrev pub TranscriptsFixBoth : Type 0
TranscriptsFixBoth = (replies others : List Reply) (outputs more : List (List ℕ × List ℕ)) → AllByRecursion IsReply replies → AllByRecursion IsReply others → AllByRecursion IsOutput outputs → AllByRecursion IsOutput more → text_of_all replies ++ output_lines outputs ≡ text_of_all others ++ output_lines more → (replies ≡ others) × (outputs ≡ more)
