use Rattle.std.proofs.Common.{◌≡◌, ℕ, ◌+◌, ◌-◌, ◌≤◌, List, ◌++◌, length, take, drop, replicate, ap, sym, ◌∙◌, arith, rules}
use Rattle.std.proofs.lemmas.List.{same_lists, places, length-append, length-replicate, length-take, length-drop, take_at}
use Rattle.wasi_fs_nodes.specs.Content.{resized, written}

pub take_filled : (xs : List ℕ) (at end : ℕ) → at ≤ end → take at (xs ++ replicate (end - length xs) 0) ≡ take at xs ++ replicate (at - length xs) 0
take_filled xs at end h = same_lists _ _ (search (rules, places)) (λ k d h. grind (arith, places))

pub drop_filled : (xs : List ℕ) (end : ℕ) → drop end (xs ++ replicate (end - length xs) 0) ≡ drop end xs
drop_filled xs end = same_lists _ _ (search (rules, places)) (λ k d h. grind (arith, places))

long_enough : (xs : List ℕ) (end : ℕ) → end ≤ length (xs ++ replicate (end - length xs) 0)
long_enough xs end = omega (arith, length-append {A = ℕ}, length-replicate {A = ℕ})

same_length : (ys more : List ℕ) (at : ℕ) → at + length more ≤ length ys → length (take at ys ++ (more ++ drop (at + length more) ys)) ≡ length ys
same_length ys more at h = omega (arith, length-append {A = ℕ}, length-take {A = ℕ}, length-drop {A = ℕ})

pub one_write : (xs ys zs more : List ℕ) (at n : ℕ) → ys ≡ xs ++ replicate (at + length more - length xs) 0
    → zs ≡ take at ys ++ (more ++ drop (at + length more) ys) → n ≡ length ys → take n (zs ++ drop (length zs) ys) ≡ written xs at more
one_write xs ys zs more at n e f h =
    let l : at + length more ≤ length ys = rw e (long_enough xs (at + length more)) in
    let m : length zs ≡ n = ap length f ∙ same_length ys more at l ∙ sym h in
    let t : take at ys ≡ resized xs at = ap (take at) e ∙ take_filled xs at (at + length more) (omega arith) in
    let d : drop (at + length more) ys ≡ drop (at + length more) xs = ap (drop (at + length more)) e ∙ drop_filled xs (at + length more) in
    take_at zs _ n m ∙ f ∙ ap (λ p. p ++ (more ++ drop (at + length more) ys)) t ∙ ap (λ p. resized xs at ++ (more ++ p)) d
