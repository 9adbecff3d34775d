-- One line more of a generated script, and one byte more of its input.
use Rattle.std.proofs.Common.{◌≡◌, ℕ, zero, suc, ◌+◌, ◌-◌, ◌%◌, ◌<◌, ◌≤◌, drop, List, [], ◌∷◌, ◌++◌, map, refl, sym, ap, ◌∙◌, arith}
use Rattle.std.proofs.lemmas.List.{append_assoc, drop_all}
use Rattle.std.specs.List.{range_with_len}
use Rattle.wasi_script.specs.Generated.{number_after, numbers_after, texts_of, text_of_kind, step_of_kind, kind_of, size_of, opening_steps, steps_to_come}

line_on : (done : List ℕ) (x rest : ℕ) → (done ++ texts_of (number_after x ∷ [])) ++ texts_of (numbers_after (number_after x) rest) ≡ done ++ texts_of (numbers_after x (suc rest))
line_on done x rest =
    let text = text_of_kind (kind_of (number_after x)) (size_of (number_after x)) in
    append_assoc done (text ++ 10 ∷ []) (texts_of (numbers_after (number_after x) rest))
    ∙ ap (λ more. done ++ more) (append_assoc text (10 ∷ []) (texts_of (numbers_after (number_after x) rest)))

pub next_line : (done whole : List ℕ) (x left rest : ℕ) → left ≡ suc rest → done ++ texts_of (numbers_after x left) ≡ whole → (done ++ texts_of (number_after x ∷ [])) ++ texts_of (numbers_after (number_after x) rest) ≡ whole
next_line done whole x left rest is e = line_on done x rest ∙ ap (λ left. done ++ texts_of (numbers_after x left)) (sym is) ∙ e

byte_on : (done : List ℕ) (a rest : ℕ) → (done ++ (a % 256) ∷ []) ++ map (λ byte. byte % 256) (range_with_len (a + 1) rest) ≡ done ++ map (λ byte. byte % 256) (range_with_len a (suc rest))
byte_on done a rest = append_assoc done ((a % 256) ∷ []) (map (λ byte. byte % 256) (range_with_len (a + 1) rest))

pub next_byte : (done whole : List ℕ) (a next left rest byte : ℕ) → next ≡ a + 1 → left ≡ suc rest → byte ≡ a % 256 → done ++ map (λ byte. byte % 256) (range_with_len a left) ≡ whole → (done ++ byte ∷ []) ++ map (λ byte. byte % 256) (range_with_len next rest) ≡ whole
next_byte done whole a next left rest byte next_is is byte_is e =
    (λ i. (done ++ byte_is i ∷ []) ++ map (λ byte. byte % 256) (range_with_len (next_is i) rest))
    ∙ byte_on done a rest
    ∙ ap (λ left. done ++ map (λ byte. byte % 256) (range_with_len a left)) (sym is)
    ∙ e

past_opening : (opened : ℕ) → 5 ≤ opened → drop opened opening_steps ≡ []
past_opening opened past = drop_all opened opening_steps (omega (arith, past))

-- after the opening each step is that of the next number
pub step_on : (opened x left : ℕ) → 5 ≤ opened → 0 < left → steps_to_come opened x left ≡ step_of_kind (kind_of (number_after x)) (size_of (number_after x)) ∷ steps_to_come opened (number_after x) (left - 1)
step_on opened x zero past some = absurd (omega (arith, some))
step_on opened x (suc left) past some = let less : suc left - 1 ≡ left = omega arith in rw (past_opening opened past, less) refl
