-- The last component of a path, found from its end.
use Rattle.std.proofs.Common.{◌≡◌, ℕ, ◌+◌, ◌<◌, Bool, true, false, List, [], ◌∷◌, ◌++◌, length, get_or, take, drop, sym, ◌∙◌, ap, subst, refl, arith, length-drop, Some, None, Option, inl, inr}
use Rattle.std.proofs.lemmas.Bool.{cases_Bool, cond-true, cond-false}
use Rattle.std.proofs.lemmas.List.{take-append-drop, get_or-drop, drop_more}
use Rattle.std.proofs.lemmas.Slice.{between_to_end}
use Rattle.std.proofs.lemmas.List.Elements.{filter-append}
use Rattle.std.proofs.lemmas.List.Splits.{slice_split-cons_yes, slice_split-cons_no, slice_split_none, length-slice_split}
use Rattle.std.specs.List.{AllWithin, All, slice_split, onto_first, filter, last_or, slice_range}
use Rattle.wasi_winrules.specs.Paths.{is_separator}
use Rattle.wasi_winrules.specs.Devices.{is_component, last_component}

onto_first-append : (x : ℕ) (parts more : List (List ℕ)) → 0 < length parts → onto_first x (parts ++ more) ≡ onto_first x parts ++ more
onto_first-append x [] more h = absurd (omega arith)
onto_first-append x (part ∷ parts) more h = refl

-- a separator parts what stands before it from what follows
slice_split-append : (p : ℕ → Bool) (xs : List ℕ) (y : ℕ) (ys : List ℕ) → p y ≡ true → slice_split p (xs ++ y ∷ ys) ≡ slice_split p xs ++ slice_split p ys
slice_split-append p [] y ys parts = slice_split-cons_yes p y ys parts
slice_split-append p (x ∷ xs) y ys parts =
    let rest : slice_split p (xs ++ y ∷ ys) ≡ slice_split p xs ++ slice_split p ys = slice_split-append p xs y ys parts in
    elim (cases_Bool (p x)) [
      | inl e ↦ slice_split-cons_yes p x (xs ++ y ∷ ys) e ∙ ap (λ l. [] ∷ l) rest ∙ ap (λ l. l ++ slice_split p ys) (sym (slice_split-cons_yes p x xs e))
      | inr e ↦ slice_split-cons_no p x (xs ++ y ∷ ys) e ∙ ap (onto_first x) rest
          ∙ onto_first-append x (slice_split p xs) (slice_split p ys) (omega (arith, length-slice_split p xs))
          ∙ ap (λ l. l ++ slice_split p ys) (sym (slice_split-cons_no p x xs e))
    ]

last_or-append : {A : Type 0} (o : Option A) (xs : List A) (x : A) → last_or o (xs ++ x ∷ []) ≡ Some x
last_or-append o [] x = refl
last_or-append o (y ∷ ys) x = last_or-append (Some y) ys x

last_or-append_none : {A : Type 0} (o : Option A) (xs : List A) → last_or o (xs ++ []) ≡ last_or o xs
last_or-append_none o [] = refl
last_or-append_none o (y ∷ ys) = last_or-append_none (Some y) ys

-- after the last separator stands the last part
last_part : (xs : List ℕ) (place : ℕ) → place < length xs → is_separator (get_or xs place 0) ≡ true → AllWithin (λ unit. is_separator unit ≡ false) xs (place + 1) (length xs) → slice_split is_separator xs ≡ slice_split is_separator (take place xs) ++ (drop (place + 1) xs ∷ [])
last_part xs place h parts after =
    let whole : xs ≡ take place xs ++ get_or xs place 0 ∷ drop (place + 1) xs = sym (take-append-drop place xs) ∙ ap (λ l. take place xs ++ l) (drop_more xs place 0 h) in
    let tail : All (λ unit. is_separator unit ≡ false) (drop (place + 1) xs) =
    λ k d l. subst (λ unit. is_separator unit ≡ false) (sym (get_or-drop (place + 1) xs k d)) (after (place + 1 + k) d (omega arith) (omega (arith, length-drop (place + 1) xs))) in
    ap (slice_split is_separator) whole
    ∙ slice_split-append is_separator (take place xs) (get_or xs place 0) (drop (place + 1) xs) parts
    ∙ ap (λ l. slice_split is_separator (take place xs) ++ l) (slice_split_none is_separator (drop (place + 1) xs) tail)

last_component_here : (xs : List ℕ) (place : ℕ) → place < length xs → is_separator (get_or xs place 0) ≡ true → AllWithin (λ unit. is_separator unit ≡ false) xs (place + 1) (length xs) → is_component (drop (place + 1) xs) ≡ true → last_component xs ≡ Some (drop (place + 1) xs)
last_component_here xs place h parts after counts =
    let one : filter is_component (drop (place + 1) xs ∷ []) ≡ drop (place + 1) xs ∷ [] = cond-true _ _ _ counts in
    ap (λ l. last_or None (filter is_component l)) (last_part xs place h parts after)
    ∙ ap (last_or None) (filter-append is_component (slice_split is_separator (take place xs)) (drop (place + 1) xs ∷ []) ∙ ap (λ l. filter is_component (slice_split is_separator (take place xs)) ++ l) one)
    ∙ last_or-append None (filter is_component (slice_split is_separator (take place xs))) (drop (place + 1) xs)

last_component_before : (xs : List ℕ) (place : ℕ) → place < length xs → is_separator (get_or xs place 0) ≡ true → AllWithin (λ unit. is_separator unit ≡ false) xs (place + 1) (length xs) → is_component (drop (place + 1) xs) ≡ false → last_component xs ≡ last_component (take place xs)
last_component_before xs place h parts after counts =
    let none : filter is_component (drop (place + 1) xs ∷ []) ≡ [] = cond-false _ _ _ counts in
    ap (λ l. last_or None (filter is_component l)) (last_part xs place h parts after)
    ∙ ap (last_or None) (filter-append is_component (slice_split is_separator (take place xs)) (drop (place + 1) xs ∷ []) ∙ ap (λ l. filter is_component (slice_split is_separator (take place xs)) ++ l) none)
    ∙ last_or-append_none None (filter is_component (slice_split is_separator (take place xs)))

-- with no separator, the path is the one part
lone_part : (xs : List ℕ) → AllWithin (λ unit. is_separator unit ≡ false) xs 0 (length xs) → slice_split is_separator xs ≡ xs ∷ []
lone_part xs all = slice_split_none is_separator xs (λ k d h. all k d (omega arith) h)

last_component_lone : (xs : List ℕ) → AllWithin (λ unit. is_separator unit ≡ false) xs 0 (length xs) → is_component xs ≡ true → last_component xs ≡ Some xs
last_component_lone xs all counts = ap (λ l. last_or None (filter is_component l)) (lone_part xs all) ∙ ap (last_or None) (cond-true _ _ _ counts)

last_component_none : (xs : List ℕ) → AllWithin (λ unit. is_separator unit ≡ false) xs 0 (length xs) → is_component xs ≡ false → last_component xs ≡ None
last_component_none xs all counts = ap (λ l. last_or None (filter is_component l)) (lone_part xs all) ∙ ap (last_or None) (cond-false _ _ _ counts)

-- ---- the loop: what is left of the path has the path's last component
pub found_here : (path xs : List ℕ) (place : ℕ) → (place < length xs) × (is_separator (get_or xs place 0) ≡ true) × AllWithin (λ unit. is_separator unit ≡ false) xs (place + 1) (length xs) → true ≡ is_component (slice_range xs (place + 1) (length xs)) → last_component path ≡ last_component xs → Some (slice_range xs (place + 1) (length xs)) ≡ last_component path
found_here path xs place found counts same =
    let end : slice_range xs (place + 1) (length xs) ≡ drop (place + 1) xs = between_to_end xs (place + 1) (length xs) (omega arith) in
    ap Some end ∙ sym (last_component_here xs place found.0 found.1 found.2 (sym (counts ∙ ap is_component end))) ∙ sym same

pub found_before : (path xs : List ℕ) (place : ℕ) → (place < length xs) × (is_separator (get_or xs place 0) ≡ true) × AllWithin (λ unit. is_separator unit ≡ false) xs (place + 1) (length xs) → false ≡ is_component (slice_range xs (place + 1) (length xs)) → last_component path ≡ last_component xs → last_component path ≡ last_component (take place xs)
found_before path xs place found counts same =
    let end : slice_range xs (place + 1) (length xs) ≡ drop (place + 1) xs = between_to_end xs (place + 1) (length xs) (omega arith) in
    same ∙ last_component_before xs place found.0 found.1 found.2 (sym (counts ∙ ap is_component end))

pub found_lone : (path xs : List ℕ) → AllWithin (λ unit. is_separator unit ≡ false) xs 0 (length xs) → true ≡ is_component xs → last_component path ≡ last_component xs → Some xs ≡ last_component path
found_lone path xs all counts same = sym (last_component_lone xs all (sym counts)) ∙ sym same

pub found_none : (path xs : List ℕ) → AllWithin (λ unit. is_separator unit ≡ false) xs 0 (length xs) → false ≡ is_component xs → last_component path ≡ last_component xs → None ≡ last_component path
found_none path xs all counts same = sym (last_component_none xs all (sym counts)) ∙ sym same
