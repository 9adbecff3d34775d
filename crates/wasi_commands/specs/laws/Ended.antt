-- How a run of steps comes to an early end, for any steps.
use Rattle.std.proofs.Common.{refl, ◌≡◌, ◌∙◌, ℕ, ◌+◌, ◌<◌, ◌≤◌, List, [], ◌++◌, length, take, drop, Option, Some, None, ap, sym, arith, append-nil, append_assoc, length-append, length-drop}
use Rattle.std.proofs.lemmas.List.{take-append-drop}
use Rattle.std.proofs.Math.Seq.{take-length, drop-length}
use Rattle.wasi_base.specs.Source.{Told}
use Rattle.wasi_base.specs.Sink.{with_more}
use Rattle.wasi_commands.specs.Programs.{IsCutShort, IsEndedEarly, closed_by}

pub with_more-nothing : (known : Option (List ℕ)) → known ≡ with_more known []
with_more-nothing None = refl
with_more-nothing (Some known) = ap Some (sym (append-nil known))

pub with_more-more : (known : Option (List ℕ)) (a b : List ℕ) → with_more (with_more known a) b ≡ with_more known (a ++ b)
with_more-more None a b = refl
with_more-more (Some known) a b = ap Some (append_assoc known a b)

split_at : (n : ℕ) (a line c : List ℕ) → (a ++ take n line) ++ (drop n line ++ c) ≡ (a ++ line) ++ c
split_at n a line c = append_assoc a (take n line) (drop n line ++ c) ∙ ap (λ text. a ++ text) (sym (append_assoc (take n line) (drop n line) c) ∙ ap (λ text. text ++ c) (take-append-drop n line)) ∙ sym (append_assoc a line c)

-- the output took the replies to all steps that were done
pub after_first : {Step : Type 0} (steps : List Step) (replies_to : List Step → List ℕ) (closing : List ℕ) (left_by : List Step → Told) (before after : Option (List ℕ)) (now : Option Told) (i : ℕ) → i ≤ length steps → now ≡ Some (left_by (take i steps)) → after ≡ with_more before (replies_to (take i steps)) → IsEndedEarly steps replies_to closing left_by before after now
after_first steps replies_to closing left_by before after now i within stdin out = record {
  done = i;
  within = within;
  stdin = stdin;
  whole = i;
  least = omega arith;
  most = omega arith;
  part = [];
  rest = closed_by (drop i steps) closing;
  next = ap (λ text. text ++ closed_by (drop i steps) closing) (append-nil (replies_to (take i steps)));
  out = out ∙ ap (with_more before) (sym (append-nil (replies_to (take i steps))));
}

-- .. to none, where no step was done
pub before_first : {Step : Type 0} (steps : List Step) (replies_to : List Step → List ℕ) (closing : List ℕ) (left_by : List Step → Told) (taken : Option (List ℕ)) → replies_to [] ≡ [] → IsEndedEarly steps replies_to closing left_by taken taken (Some (left_by []))
before_first steps replies_to closing left_by taken none = after_first steps replies_to closing left_by taken taken (Some (left_by [])) 0 (omega arith) refl (with_more-nothing taken ∙ ap (with_more taken) (sym none))

-- .. and of the next step's reply the first n bytes
pub within_next : {Step : Type 0} (steps : List Step) (replies_to : List Step → List ℕ) (closing : List ℕ) (left_by : List Step → Told) (before after : Option (List ℕ)) (now : Option Told) (i n : ℕ) (line : List ℕ) → i < length steps → replies_to (take (i + 1) steps) ≡ replies_to (take i steps) ++ line → now ≡ Some (left_by (take (i + 1) steps)) → after ≡ with_more (with_more before (replies_to (take i steps))) (take n line) → IsEndedEarly steps replies_to closing left_by before after now
within_next steps replies_to closing left_by before after now i n line lt grows stdin out = record {
  done = i + 1;
  within = omega (arith, lt);
  stdin = stdin;
  whole = i;
  least = omega arith;
  most = omega arith;
  part = take n line;
  rest = drop n line ++ closed_by (drop (i + 1) steps) closing;
  next = split_at n (replies_to (take i steps)) line (closed_by (drop (i + 1) steps) closing) ∙ ap (λ text. text ++ closed_by (drop (i + 1) steps) closing) (sym grows);
  out = out ∙ with_more-more before (replies_to (take i steps)) (take n line);
}

pub short_of_next : {Step : Type 0} (steps : List Step) (replies_to : List Step → List ℕ) (closing : List ℕ) (left_by : List Step → Told) (before after : Option (List ℕ)) (now : Option Told) (i n : ℕ) (line : List ℕ) → n < length line → i < length steps → replies_to (take (i + 1) steps) ≡ replies_to (take i steps) ++ line → now ≡ Some (left_by (take (i + 1) steps)) → after ≡ with_more (with_more before (replies_to (take i steps))) (take n line) → IsCutShort steps replies_to closing left_by before after now
unfolding within_next
short_of_next steps replies_to closing left_by before after now i n line short lt grows stdin out = record {
  early = within_next steps replies_to closing left_by before after now i n line lt grows stdin out;
  short = let left : 0 < length (drop n line ++ closed_by (drop (i + 1) steps) closing) = omega (arith, short, length-append (drop n line) (closed_by (drop (i + 1) steps) closing), length-drop n line) in left;
}

-- .. all replies, and of what closes the run the first n bytes
pub within_closing : {Step : Type 0} (steps : List Step) (replies_to : List Step → List ℕ) (closing : List ℕ) (left_by : List Step → Told) (before after : Option (List ℕ)) (now : Option Told) (n : ℕ) → now ≡ Some (left_by steps) → after ≡ with_more (with_more before (replies_to steps)) (take n closing) → IsEndedEarly steps replies_to closing left_by before after now
within_closing steps replies_to closing left_by before after now n stdin out = record {
  done = length steps;
  within = omega arith;
  stdin = rw (take-length steps) stdin;
  whole = length steps;
  least = omega arith;
  most = omega arith;
  part = take n closing;
  rest = drop n closing;
  next = rw (drop-length steps) (append_assoc (replies_to (take (length steps) steps)) (take n closing) (drop n closing) ∙ ap (λ text. replies_to (take (length steps) steps) ++ text) (take-append-drop n closing));
  out = rw (take-length steps) (out ∙ with_more-more before (replies_to steps) (take n closing));
}

pub short_of_closing : {Step : Type 0} (steps : List Step) (replies_to : List Step → List ℕ) (closing : List ℕ) (left_by : List Step → Told) (before after : Option (List ℕ)) (now : Option Told) (n : ℕ) → n < length closing → now ≡ Some (left_by steps) → after ≡ with_more (with_more before (replies_to steps)) (take n closing) → IsCutShort steps replies_to closing left_by before after now
unfolding within_closing
short_of_closing steps replies_to closing left_by before after now n short stdin out = record {
  early = within_closing steps replies_to closing left_by before after now n stdin out;
  short = let left : 0 < length (drop n closing) = omega (arith, short, length-drop n closing) in left;
}
