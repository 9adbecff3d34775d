-- A line that is told in parts.
use Rattle.std.proofs.Common.{◌≡◌, ℕ, ◌+◌, ◌<◌, ◌≤◌, List, ◌++◌, length, take, Option, Some, None, refl, ap, arith, ◌∙◌, sym, append_assoc, inl, inr}
use Rattle.std.proofs.Math.Seq.{take-append-add}
use Rattle.std.proofs.lemmas.Grind.{common_steps}
use Rattle.wasi_base.specs.Causes.{Rose}
use Rattle.wasi_base.specs.Sink.{with_more}
use Rattle.wasi_commands.specs.Telling.{Tells}

-- a sink took a first part of this and then failed
abbrev pub TellsPart : List ℕ → Option (List ℕ) → Option (List ℕ) → ℕ → ℕ → Type 0
TellsPart line before after faults_before faults_after = (n : ℕ) × (n < length line) × (after ≡ with_more before (take n line)) × Rose faults_before faults_after

with_both : (known : Option (List ℕ)) (a b : List ℕ) → with_more (with_more known a) b ≡ with_more known (a ++ b)
with_both None a b = refl
with_both (Some known) a b = ap Some (append_assoc known a b)

-- the first part failed
pub tells_first : (a b : List ℕ) (before after : Option (List ℕ)) (f0 f1 : ℕ) → TellsPart a before after f0 f1 → Tells (a ++ b) before after f0 f1
tells_first a b before after f0 f1 part =
    let short : part.0 < length a = part.1 in
    let same : take part.0 (a ++ b) ≡ take part.0 a = grind (arith, common_steps) in
    inr (part.0, grind (arith, common_steps), rw same part.2, part.3)

-- the first part was taken, and then the rest is told
pub tells_then : (a b : List ℕ) (before mid after : Option (List ℕ)) (f0 f1 f2 : ℕ) → f0 ≤ f1 → mid ≡ with_more before a → Tells b mid after f1 f2 → Tells (a ++ b) before after f0 f2
tells_then a b before mid after f0 f1 f2 later took (inl whole) = inl (whole ∙ ap (λ known. with_more known b) took ∙ with_both before a b)
tells_then a b before mid after f0 f1 f2 later took (inr part) =
    let short : part.0 < length b = part.1 in
    let n = length a + part.0 in
    let front = take-append-add a b part.0 in
    let rose : Rose f1 f2 = part.3 in
    inr (length a + part.0, grind (arith, common_steps), part.2 ∙ ap (λ known. with_more known (take part.0 b)) took ∙ with_both before a (take part.0 b) ∙ ap (with_more before) (sym front), omega (arith, rose, later))
