-- What a read of the source in memory gives.
use Rattle.std.proofs.Common.{◌≡◌, ℕ, ◌+◌, ◌<◌, min, max, List, [], ◌∷◌, length, take, drop, Some, None, Ok, refl, ap, arith, ◌∙◌, sym, zero, suc}
use Rattle.std.specs.Prelude.{slice_get}
use Rattle.std.proofs.lemmas.Grind.{common_steps}
use Rattle.std.proofs.lemmas.List.{drop-drop}
use Rattle.wasi_base.specs.declared.io_kind.IoKind.{IoKind}
use Rattle.wasi_base.specs.declared.source.Plan.{Plan}
use Rattle.wasi_base.specs.declared.source.Plan.TheVariants.{Take, Fail}
use Rattle.wasi_base.specs.Source.{Told, Given, Gives, Bytes, Fault, given_by, told_by, gives, told_after, given_in, MayGive}

pub given_some : (n : ℕ) (buf : List ℕ) → 0 < n → given_in (Ok n) buf ≡ Bytes (take n buf)
given_some zero buf h = absurd (omega arith)
given_some (suc n) buf h = refl

-- a planned fault
pub gives_fault : (left : List ℕ) (plan : List Plan) (r : ℕ) (kind : IoKind) → slice_get plan 0 ≡ Some (Fail kind) → (given_by plan left r ≡ Fault kind) × (told_by plan left r ≡ record { left = left; plan = drop 1 plan })
gives_fault left [] r kind h = absurd (cc)
gives_fault left (Take k ∷ plan) r kind h = absurd (cc)
gives_fault left (Fail k ∷ plan) r kind h = let e : k ≡ kind = cc in (ap Fault e, refl)

-- bytes that the plan cuts at k
pub gives_take : (left : List ℕ) (plan : List Plan) (r k n : ℕ) (buf : List ℕ) → 0 < r → slice_get plan 0 ≡ Some (Take k) → n ≡ length (take (min r (max k 1)) left) → take n buf ≡ take (min r (max k 1)) left → 0 < n → (given_in (Ok n) buf ≡ given_by plan left r) × (told_by plan left r ≡ record { left = drop (min r (max k 1)) left; plan = drop 1 plan })
gives_take left [] r k n buf pos h len front some = absurd (cc)
gives_take left (Fail kind ∷ plan) r k n buf pos h len front some = absurd (cc)
gives_take [] (Take j ∷ plan) r k n buf pos h len front some = absurd (grind (arith, common_steps))
gives_take (b ∷ left) (Take j ∷ plan) r k n buf pos h len front some =
    let e : j ≡ k = cc in
    (rw e (given_some n buf some ∙ ap Bytes front), rw e refl)

-- all that fits, with no plan
pub gives_all : (left : List ℕ) (plan : List Plan) (r n : ℕ) (buf : List ℕ) → 0 < r → slice_get plan 0 ≡ None → n ≡ length (take r left) → take n buf ≡ take r left → (given_in (Ok n) buf ≡ given_by plan left r) × (told_by plan left r ≡ record { left = drop r left; plan = plan })
gives_all left (p ∷ plan) r n buf pos h len front = absurd (cc)
gives_all [] [] r n buf pos h len front = let e : n ≡ 0 = grind (arith, common_steps) in (rw e refl, grind (arith, common_steps))
gives_all (b ∷ left) [] r n buf pos h len front = let some : 0 < n = grind (arith, common_steps) in (given_some n buf some ∙ ap Bytes front, refl)

some_is : {A : Type 0} (a b : A) → Some a ≡ Some b → a ≡ b
some_is a b h = cc

-- a read of a source that tells, from what it gave and what it tells next
pub gives_from : (before after : Told) (r : ℕ) (given : Given) → MayGive r given → given ≡ gives before r → after ≡ told_after before r → Gives (Some before) r given (Some after)
gives_from before after r given may is next = record { may = may; told = λ t e. let same : before ≡ t = some_is before t e in (is ∙ ap (λ t. gives t r) same, ap Some (next ∙ ap (λ t. told_after t r) same)) }

pub drop_one : {A : Type 0} (xs : List A) (n : ℕ) → drop (n + 1) xs ≡ drop 1 (drop n xs)
drop_one xs n = sym (drop-drop 1 n xs)
