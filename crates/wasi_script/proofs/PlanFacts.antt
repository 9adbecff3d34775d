-- The items of a plan, one after another.
use Rattle.std.proofs.Common.{◌≡◌, ℕ, ◌<◌, ◌≤◌, ◌+◌, List, [], ◌∷◌, ◌++◌, length, Bool, true, false, Option, Some, None, cond, refl, ap, arith, ◌∙◌, sym, append_assoc, length-append}
use Rattle.std.proofs.lemmas.Bool.Decides.{nat_tests}
use Rattle.std.specs.Prelude.{nat_le}
use Rattle.std.specs.Option.{option_map}
use Rattle.wasi_script.specs.Plans.{each_of, items_of}

-- items that were read, and then what the texts that are left stand for
abbrev pub after_items : {A : Type 0} → List A → Option (List A) → Option (List A)
after_items items rest = option_map (λ more. items ++ more) rest

-- the texts stand for the items that were read and then for what the texts that are left do
pub record IsReadTo {A : Type 0} (meaning : List ℕ → Option A) (texts : List (List ℕ)) (items : List A) (left : List (List ℕ)) : Type 0 where
  pub so_far : each_of meaning texts ≡ after_items items (each_of meaning left)
  pub count : length texts ≡ length items + length left
  pub short : length items ≤ 1024

after_none : {A : Type 0} (rest : Option (List A)) → rest ≡ after_items [] rest
after_none None = refl
after_none (Some more) = refl

pub read_none : {A : Type 0} (meaning : List ℕ → Option A) (texts : List (List ℕ)) → IsReadTo meaning texts [] texts
read_none meaning texts = record { so_far = after_none (each_of meaning texts); count = omega arith; short = omega arith }

after_one : {A : Type 0} (items : List A) (item : A) (rest : Option (List A)) → after_items items (option_map (λ more. item ∷ more) rest) ≡ after_items (items ++ item ∷ []) rest
after_one items item None = refl
after_one items item (Some more) = ap Some (sym (append_assoc items (item ∷ []) more))

-- one more item
pub read_one : {A : Type 0} (meaning : List ℕ → Option A) (texts : List (List ℕ)) (items : List A) (text : List ℕ) (left : List (List ℕ)) (item : A)
    → IsReadTo meaning texts items (text ∷ left) → meaning text ≡ Some item → length items < 1024 → IsReadTo meaning texts (items ++ item ∷ []) left
read_one meaning texts items text left item read is room = record {
  so_far = read.so_far ∙ rw is (after_one items item (each_of meaning left));
  count = omega (arith, read.count, length-append items (item ∷ []));
  short = omega (arith, room, length-append items (item ∷ []));
}

-- a text that is no item
pub read_bad : {A : Type 0} (meaning : List ℕ → Option A) (texts : List (List ℕ)) (items : List A) (text : List ℕ) (left : List (List ℕ))
    → IsReadTo meaning texts items (text ∷ left) → meaning text ≡ None → items_of meaning texts ≡ None
read_bad meaning texts items text left read is = by_test (nat_le (length texts) 1024)
  where
    none : each_of meaning texts ≡ None
    none = read.so_far ∙ rw is refl

    by_test : (test : Bool) → cond test (each_of meaning texts) None ≡ None
    by_test true = none
    by_test false = refl

-- more than 1024 texts
pub read_too_many : {A : Type 0} (meaning : List ℕ → Option A) (texts : List (List ℕ)) (items : List A) (text : List ℕ) (left : List (List ℕ))
    → IsReadTo meaning texts items (text ∷ left) → length items ≡ 1024 → items_of meaning texts ≡ None
read_too_many meaning texts items text left read full =
    let more : 1024 < length texts = omega (arith, read.count) in
    let past : nat_le (length texts) 1024 ≡ false = grind (arith, nat_tests, more) in
    rw past refl

-- all of them
pub read_all : {A : Type 0} (meaning : List ℕ → Option A) (texts : List (List ℕ)) (items : List A) (left : List (List ℕ))
    → IsReadTo meaning texts items left → left ≡ [] → items_of meaning texts ≡ Some items
read_all meaning texts items left read none =
    let within : nat_le (length texts) 1024 ≡ true = grind (arith, nat_tests, read.count, read.short, none) in
    rw within (read.so_far ∙ rw none (ap Some (append_nil items)))
  where
    append_nil : {A : Type 0} (items : List A) → items ++ [] ≡ items
    append_nil [] = refl
    append_nil (item ∷ items) = ap (λ rest. item ∷ rest) (append_nil items)
