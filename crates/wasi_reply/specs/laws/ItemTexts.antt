-- Items that are joined by commas: which bytes they lack, and that their text fixes them.
use Rattle.std.proofs.Common.{◌≡◌, ℕ, ◌<◌, List, [], ◌∷◌, ◌++◌, refl, arith}
use Rattle.std.specs.Prelude.{codes}
use Rattle.std.specs.List.{AllByRecursion, flat_map}
use Rattle.wasi_reply.specs.Field.{items_text}
use Rattle.wasi_reply.specs.laws.Lacking.{Lacks, BeginsIfAny, lacks-append, same_parts}

-- each item after a comma
abbrev pub joined : List (List ℕ) → List ℕ
joined items = flat_map (λ item. codes "," ++ item) items

joined_begins : (items : List (List ℕ)) → BeginsIfAny 44 (joined items)
joined_begins [] = tt
joined_begins (item ∷ items) = refl

pub items_begin : (items : List (List ℕ)) → BeginsIfAny 32 (items_text items)
items_begin [] = tt
items_begin (item ∷ items) = refl

lacks-joined : (byte : ℕ) (items : List (List ℕ)) → byte < 44 → AllByRecursion (Lacks byte) items → Lacks byte (joined items)
lacks-joined byte [] below h = tt
lacks-joined byte (item ∷ items) below h = (omega (arith, below), lacks-append byte item (joined items) h.0 (lacks-joined byte items below h.1))

pub lacks-items : (byte : ℕ) (items : List (List ℕ)) → byte < 32 → AllByRecursion (Lacks byte) items → Lacks byte (items_text items)
lacks-items byte [] below h = tt
lacks-items byte (item ∷ items) below h = (omega (arith, below), lacks-append byte item (joined items) h.0 (lacks-joined byte items (omega (arith, below)) h.1))

-- items that hold no comma are told apart
same_joined : (a b : List (List ℕ)) → AllByRecursion (Lacks 44) a → AllByRecursion (Lacks 44) b → joined a ≡ joined b → a ≡ b
same_joined [] [] in_a in_b e = refl
same_joined [] (y ∷ b) in_a in_b e = absurd (cc)
same_joined (x ∷ a) [] in_a in_b e = absurd (cc)
same_joined (x ∷ a) (y ∷ b) in_a in_b e =
    let after : x ++ joined a ≡ y ++ joined b = cc in
    let parts = same_parts 44 x y (joined a) (joined b) in_a.0 in_b.0 (joined_begins a) (joined_begins b) after in
    let first : x ≡ y = parts.0 in
    let rest = same_joined a b in_a.1 in_b.1 parts.1 in
    cc

pub same_items : (a b : List (List ℕ)) → AllByRecursion (Lacks 44) a → AllByRecursion (Lacks 44) b → items_text a ≡ items_text b → a ≡ b
same_items [] [] in_a in_b e = refl
same_items [] (y ∷ b) in_a in_b e = absurd (cc)
same_items (x ∷ a) [] in_a in_b e = absurd (cc)
same_items (x ∷ a) (y ∷ b) in_a in_b e =
    let after : x ++ joined a ≡ y ++ joined b = cc in
    let parts = same_parts 44 x y (joined a) (joined b) in_a.0 in_b.0 (joined_begins a) (joined_begins b) after in
    let first : x ≡ y = parts.0 in
    let rest = same_joined a b in_a.1 in_b.1 parts.1 in
    cc
