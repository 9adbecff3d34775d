-- What the fields of a slot hold after a number was put into one of them.
use Rattle.std.proofs.Common.{◌≡◌, ℕ, ◌+◌, ◌^◌, ◌<◌, ◌≤◌, List, ◌++◌, length, take, drop, sym, ap, ◌∙◌, arith, length-append, length-take, length-drop}
use Rattle.std.proofs.lemmas.List.{drop_at, length-take-le, drop-take}
use Rattle.std.proofs.lemmas.Slice.{take-put_mid_below, drop-put_mid}
use Rattle.byteorder.specs.Endian.{little_number, little_bytes}
use Rattle.byteorder.specs.Numbers.{little_number-reads_back, little_from-take, length-bytes_low_first}
use Rattle.wasi_p0.specs.Slot.{number_at, put}

-- a number depends on no byte past its own
number-front : (place width : ℕ) (slot : List ℕ) → little_number width (drop place slot) ≡ little_number width (drop place (take (place + width) slot))
number-front place width slot =
    sym (little_from-take 0 width width (drop place slot) (omega arith)) ∙ ap (λ (part : List ℕ). little_number width part) (sym (drop-take place width slot))

-- a slot keeps its length
pub length-put : (place width number : ℕ) (slot : List ℕ) → place + width ≤ 48 → length slot ≡ 48 → length (put (record { place = place; width = width }) number slot) ≡ 48
length-put place width number slot room whole =
    simp (length-append, length-take, length-drop, length-bytes_low_first) (omega arith)

-- the number stands in its field
pub number_at-put : (place width number : ℕ) (slot : List ℕ) → place + width ≤ 48 → length slot ≡ 48 → number < 256 ^ width → number_at (record { place = place; width = width }) (put (record { place = place; width = width }) number slot) ≡ number
number_at-put place width number slot room whole small =
    let later = drop width (drop place slot) in
    let front = drop_at (take place slot) (little_bytes width number ++ later) place (length-take-le place slot (omega arith)) in
    ap (λ (rest : List ℕ). little_number width rest) front ∙ little_number-reads_back width number later small

-- a field before it is as it was
pub number_at-before : (place width : ℕ) (there size number : ℕ) (slot : List ℕ) → place + width ≤ there → there ≤ 48 → length slot ≡ 48 → number_at (record { place = place; width = width }) (put (record { place = there; width = size }) number slot) ≡ number_at (record { place = place; width = width }) slot
number_at-before place width there size number slot before room whole =
    number-front place width (put (record { place = there; width = size }) number slot)
    ∙ ap (λ (part : List ℕ). little_number width (drop place part)) (take-put_mid_below there size slot (little_bytes size number) (place + width) before (omega arith))
    ∙ sym (number-front place width slot)

-- and so is one after it
pub number_at-after : (place width : ℕ) (there size number : ℕ) (slot : List ℕ) → there + size ≤ place → there ≤ 48 → length slot ≡ 48 → number_at (record { place = place; width = width }) (put (record { place = there; width = size }) number slot) ≡ number_at (record { place = place; width = width }) slot
number_at-after place width there size number slot after room whole =
    ap (λ (rest : List ℕ). little_number width rest) (drop-put_mid there size slot (little_bytes size number) place after (omega arith) (length-bytes_low_first 0 size number))
