-- The lines of outputs fix their names and their bytes.
use Rattle.std.proofs.Common.{◌≡◌, ℕ, List, [], ◌∷◌, ◌++◌, refl, ◌∙◌, sym, append_assoc}
use Rattle.std.specs.List.{AllByRecursion}
use Rattle.std.proofs.lemmas.List.{append-nil}
use Rattle.wasi_reply.specs.Field.{Field, hex_of, worded}
use Rattle.wasi_reply.specs.Outputs.{IsOutput, output_lines}
use Rattle.wasi_reply.specs.laws.FieldTexts.{field_line}
use Rattle.wasi_reply.specs.laws.Lacking.{same_parts}
use Rattle.wasi_reply.proofs.SameFields.{same_hex}

-- after its first word: the name, a space, the bytes, a line's end and the rest
apart : (name taken rest : List ℕ) → (worded (name, Field.Hex taken ∷ []) ++ 10 ∷ []) ++ rest ≡ name ++ 32 ∷ (hex_of taken ++ 10 ∷ rest)
apart name taken rest = simp (append_assoc, append-nil)

pub outputs_fix : (a b : List (List ℕ × List ℕ)) → AllByRecursion IsOutput a → AllByRecursion IsOutput b → output_lines a ≡ output_lines b → a ≡ b
outputs_fix [] [] in_a in_b e = refl
outputs_fix [] (second ∷ b) in_a in_b e = absurd (cc)
outputs_fix (first ∷ a) [] in_a in_b e = absurd (cc)
outputs_fix (first ∷ a) (second ∷ b) in_a in_b e =
    let told : (worded (first.0, Field.Hex first.1 ∷ []) ++ 10 ∷ []) ++ output_lines a ≡ (worded (second.0, Field.Hex second.1 ∷ []) ++ 10 ∷ []) ++ output_lines b = cc in
    let names = same_parts 32 first.0 second.0 (32 ∷ (hex_of first.1 ++ 10 ∷ output_lines a)) (32 ∷ (hex_of second.1 ++ 10 ∷ output_lines b)) in_a.0.0 in_b.0.0 refl refl (sym (apart first.0 first.1 (output_lines a)) ∙ told ∙ apart second.0 second.1 (output_lines b)) in
    let after : hex_of first.1 ++ 10 ∷ output_lines a ≡ hex_of second.1 ++ 10 ∷ output_lines b = cc in
    let bytes = same_parts 10 (hex_of first.1) (hex_of second.1) (10 ∷ output_lines a) (10 ∷ output_lines b) (field_line (Field.Hex first.1)).1 (field_line (Field.Hex second.1)).1 refl refl after in
    let name : first.0 ≡ second.0 = names.0 in
    let taken : first.1 ≡ second.1 = same_hex first.1 second.1 in_a.0.1 in_b.0.1 bytes.0 in
    let lines : output_lines a ≡ output_lines b = cc in
    let here : first ≡ second = rw (name, taken) refl in
    let there = outputs_fix a b in_a.1 in_b.1 lines in
    cc
