-- A text fixes the reply that it is of, and the lines of a transcript fix as many replies.
use Rattle.std.proofs.Common.{◌≡◌, ℕ, List, [], ◌∷◌, ◌++◌, length, refl, ap, arith, ◌∙◌, sym}
use Rattle.std.specs.Prelude.{map}
use Rattle.std.specs.List.{AllByRecursion}
use Rattle.wasi_reply.specs.declared.reply.Reply.{Reply}
use Rattle.wasi_reply.specs.Field.{fields_text}
use Rattle.wasi_reply.specs.Lines.{lines_in}
use Rattle.wasi_reply.specs.Reply.{IsReply, fields_of, text_of, text_of_all}
use Rattle.wasi_reply.specs.laws.FieldTexts.{fields_begin}
use Rattle.wasi_reply.specs.laws.Lacking.{lacking, same_parts}
use Rattle.wasi_reply.proofs.Reader.{forms_after, reply_of, reads_back}
use Rattle.wasi_reply.specs.laws.ReplyLines.{are_lines, reply_word}
use Rattle.wasi_reply.proofs.SameFields.{form_of, same_fields}

pub texts_fix : (a b : Reply) → IsReply a → IsReply b → text_of a ≡ text_of b → a ≡ b
texts_fix a b in_a in_b e =
    let read = reads_back a in
    let read_too = reads_back b in
    let parts = same_parts 32 (fields_of a).0 (fields_of b).0 (fields_text (fields_of a).1) (fields_text (fields_of b).1) (lacking 32 (fields_of a).0 (reply_word a).1) (lacking 32 (fields_of b).0 (reply_word b).1) (fields_begin (fields_of a).1) (fields_begin (fields_of b).1) e in
    let some_forms = sym read.forms ∙ ap forms_after parts.0 ∙ read_too.forms in
    let forms : map form_of (fields_of a).1 ≡ map form_of (fields_of b).1 = cc in
    let fields = same_fields (fields_of a).1 (fields_of b).1 forms read.last in_a in_b parts.1 in
    let some = sym read.reply ∙ ap (λ word. reply_of word (fields_of a).1) parts.0 ∙ ap (reply_of (fields_of b).0) fields ∙ read_too.reply in
    cc

same_front : (a b : List Reply) (x y : List (List ℕ)) → AllByRecursion IsReply a → AllByRecursion IsReply b → length a ≡ length b → map text_of a ++ x ≡ map text_of b ++ y → a ≡ b
same_front [] [] x y in_a in_b n e = refl
same_front [] (second ∷ b) x y in_a in_b n e = absurd (omega (arith, n))
same_front (first ∷ a) [] x y in_a in_b n e = absurd (omega (arith, n))
same_front (first ∷ a) (second ∷ b) x y in_a in_b n e =
    let text : text_of first ≡ text_of second = cc in
    let texts : map text_of a ++ x ≡ map text_of b ++ y = cc in
    let here = texts_fix first second in_a.0 in_b.0 text in
    let there = same_front a b x y in_a.1 in_b.1 (omega (arith, n)) texts in
    cc

-- the lines fix as many replies
pub lines_fix : (a b : List Reply) (rest more : List ℕ) → AllByRecursion IsReply a → AllByRecursion IsReply b → length a ≡ length b → text_of_all a ++ rest ≡ text_of_all b ++ more → a ≡ b
lines_fix a b rest more in_a in_b count e = same_front a b (lines_in rest) (lines_in more) in_a in_b count (sym (are_lines a rest) ∙ ap lines_in e ∙ are_lines b more)
