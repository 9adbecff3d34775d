-- One step more of those that are counted, and the last one.
use Rattle.std.proofs.Common.{◌≡◌, ℕ, zero, suc, ◌+◌, ◌<◌, ◌≤◌, List, [], ◌∷◌, length, get_or, drop, refl, sym, ap, arith, ◌∙◌}
use Rattle.std.proofs.lemmas.List.{length-drop, drop_more}
use Rattle.std.proofs.lemmas.Grind.{common_steps}

pub one_on : {A : Type 0} (steps : List A) (i : ℕ) (step : A) (rest : List A) → drop i steps ≡ step ∷ rest → (i < length steps) × (get_or steps i step ≡ step) × (drop (i + 1) steps ≡ rest)
one_on steps i step rest is =
    let lt : i < length steps = omega (arith, length-drop i steps, ap length is) in
    let both : get_or steps i step ∷ drop (i + 1) steps ≡ step ∷ rest = sym (drop_more steps i step lt) ∙ is in
    (lt, cc, cc)

pub none_left : {A : Type 0} (steps : List A) (i : ℕ) → drop i steps ≡ [] → length steps ≤ i
none_left steps i is = omega (arith, length-drop i steps, ap length is)
