-- What a read of a source gives, and what it leaves.
use Rattle.std.proofs.Common.{◌≡◌, ℕ, min, max, List, [], ◌∷◌, ◌++◌, refl, sym, take-append-drop}
use Rattle.wasi_base.specs.declared.source.Plan.{Plan}
use Rattle.wasi_base.specs.declared.source.Plan.TheVariants.{Take, Fail}
use Rattle.wasi_base.specs.Source.{Told, bytes_given, given_by, told_by}

-- what was left before a read is what it gave, and then what it left
pub given_left : (plan : List Plan) (left : List ℕ) (r : ℕ) → left ≡ bytes_given (given_by plan left r) ++ (told_by plan left r).left
given_left (Fail kind ∷ plan) left r = refl
given_left (Take k ∷ plan) [] r = refl
given_left (Take k ∷ plan) (b ∷ left) r = sym (take-append-drop (min r (max k 1)) (b ∷ left))
given_left [] [] r = refl
given_left [] (b ∷ left) r = sym (take-append-drop r (b ∷ left))
