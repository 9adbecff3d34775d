-- A transcript, the lines of replies and then those of outputs, fixes both.
use Rattle.std.proofs.Common.{◌≡◌, ℕ, Bool, true, false, List, [], ◌∷◌, ◌++◌, take, refl, ap, ◌∙◌, sym, append_assoc}
use Rattle.std.specs.Prelude.{codes}
use Rattle.std.specs.List.{AllByRecursion}
use Rattle.std.specs.Str.{bytes_eq}
use Rattle.wasi_reply.specs.declared.reply.Told.{Told}
use Rattle.wasi_reply.specs.declared.reply.Told.TheVariants as told
use Rattle.wasi_reply.specs.declared.reply.Worked.{Worked}
use Rattle.wasi_reply.specs.declared.reply.Worked.TheVariants as worked
use Rattle.wasi_reply.specs.declared.reply.Reply.{Reply}
use Rattle.wasi_reply.specs.declared.reply.Reply.TheVariants as reply
use Rattle.wasi_reply.specs.Outputs.{IsOutput, output_lines}
use Rattle.wasi_reply.specs.Reply.{IsReply, text_of, reply_line, text_of_all}
use Rattle.wasi_reply.proofs.FixedOutputs.{outputs_fix}
use Rattle.wasi_reply.proofs.FixedReplies.{texts_fix}
use Rattle.wasi_reply.specs.laws.Lacking.{same_parts}
use Rattle.wasi_reply.specs.laws.ReplyLines.{text_line}

abbrev begins_output : List ℕ → Bool
begins_output text = bytes_eq (take 7 text) (codes "output ")

told_apart : (it : Told) (rest : List ℕ) → begins_output (reply_line (reply.Told it) ++ rest) ≡ false
told_apart (told.Truth true) rest = refl
told_apart (told.Truth false) rest = refl
told_apart _ rest = refl

worked_apart : (it : Worked) (rest : List ℕ) → begins_output (reply_line (reply.Worked it) ++ rest) ≡ false
worked_apart worked.Idle rest = refl
worked_apart _ rest = refl

-- no reply begins as an output's line does
reply_apart : (it : Reply) (rest : List ℕ) → begins_output (reply_line it ++ rest) ≡ false
reply_apart (reply.Told it) rest = told_apart it rest
reply_apart (reply.Worked it) rest = worked_apart it rest
reply_apart _ rest = refl

not_empty : (line rest : List ℕ) → (line ++ 10 ∷ []) ++ rest ≡ [] → ⊥
not_empty [] rest e = cc
not_empty (byte ∷ line) rest e = cc

apart : (outputs : List (List ℕ × List ℕ)) (it : Reply) (rest : List ℕ) → output_lines outputs ≡ reply_line it ++ rest → ⊥
apart [] it rest e = not_empty (text_of it) rest (sym e)
apart (first ∷ outputs) it rest e =
    let begins : begins_output (output_lines (first ∷ outputs)) ≡ true = refl in
    let both = sym begins ∙ ap begins_output e ∙ reply_apart it rest in
    cc

-- a line and what comes after it
line_first : (it : Reply) (replies : List Reply) (rest : List ℕ) → text_of_all (it ∷ replies) ++ rest ≡ text_of it ++ 10 ∷ (text_of_all replies ++ rest)
line_first it replies rest = append_assoc (text_of it ++ 10 ∷ []) (text_of_all replies) rest ∙ append_assoc (text_of it) (10 ∷ []) (text_of_all replies ++ rest)

pub transcripts_fix : (a b : List Reply) (x y : List (List ℕ × List ℕ)) → AllByRecursion IsReply a → AllByRecursion IsReply b → AllByRecursion IsOutput x → AllByRecursion IsOutput y → text_of_all a ++ output_lines x ≡ text_of_all b ++ output_lines y → (a ≡ b) × (x ≡ y)
transcripts_fix [] [] x y in_a in_b in_x in_y e = (refl, outputs_fix x y in_x in_y e)
transcripts_fix [] (second ∷ b) x y in_a in_b in_x in_y e = absurd (apart x second (text_of_all b ++ output_lines y) (e ∙ append_assoc (reply_line second) (text_of_all b) (output_lines y)))
transcripts_fix (first ∷ a) [] x y in_a in_b in_x in_y e = absurd (apart y first (text_of_all a ++ output_lines x) (sym e ∙ append_assoc (reply_line first) (text_of_all a) (output_lines x)))
transcripts_fix (first ∷ a) (second ∷ b) x y in_a in_b in_x in_y e =
    let lines = same_parts 10 (text_of first) (text_of second) (10 ∷ (text_of_all a ++ output_lines x)) (10 ∷ (text_of_all b ++ output_lines y)) (text_line first) (text_line second) refl refl (sym (line_first first a (output_lines x)) ∙ e ∙ line_first second b (output_lines y)) in
    let rest : text_of_all a ++ output_lines x ≡ text_of_all b ++ output_lines y = cc in
    let here = texts_fix first second in_a.0 in_b.0 lines.0 in
    let there = transcripts_fix a b x y in_a.1 in_b.1 in_x in_y rest in
    let more : a ≡ b = there.0 in
    (cc, there.1)
