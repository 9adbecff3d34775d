-- Items that are printed one after the other, the first after a space and each later one after a comma.
use Rattle.std.proofs.Common.{◌≡◌, ℕ, List, [], ◌∷◌, ◌++◌, length, take, refl}
use Rattle.wasi_reply.specs.laws.ItemTexts.{joined}

-- the items to come, of which the next is printed after this byte
abbrev pub to_come : ℕ → List (List ℕ) → List ℕ
to_come before [] = []
to_come before (item ∷ items) = before ∷ (item ++ joined items)

-- what a text begins with it begins with as it grows
pub front_more : (front text : List ℕ) (byte : ℕ) → take (length front) text ≡ front → take (length front) (text ++ byte ∷ []) ≡ front
front_more [] text byte e = refl
front_more (x ∷ front) [] byte e = absurd (cc)
front_more (x ∷ front) (y ∷ text) byte e =
    let first : y ≡ x = cc in
    let rest : take (length front) text ≡ front = cc in
    let more = front_more front text byte rest in
    cc

pub front_stays : (front text after : List ℕ) → take (length front) text ≡ front → take (length text) after ≡ text → take (length front) after ≡ front
front_stays [] text after e f = refl
front_stays (x ∷ front) [] after e f = absurd (cc)
front_stays (x ∷ front) (y ∷ text) [] e f = absurd (cc)
front_stays (x ∷ front) (y ∷ text) (z ∷ after) e f =
    let first : y ≡ x = cc in
    let same : z ≡ y = cc in
    let rest : take (length front) text ≡ front = cc in
    let same_rest : take (length text) after ≡ text = cc in
    let more = front_stays front text after rest same_rest in
    cc
