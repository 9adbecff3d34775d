-- A source that tells, read to its end.
use Rattle.std.proofs.Common.{◌≡◌, ℕ, zero, suc, ◌-◌, ◌<◌, ◌≤◌, min, max, take-append-drop, length-append, length-take, List, [], ◌∷◌, ◌++◌, length, take, Option, Ok, refl, ap, arith, ◌∙◌, sym, append_assoc, append-nil}
use Rattle.wasi_base.specs.declared.io_kind.IoKind.{IoKind}
use Rattle.wasi_base.specs.declared.source.Plan.{Plan}
use Rattle.wasi_base.specs.declared.source.Plan.TheVariants.{Take, Fail}
use Rattle.wasi_base.specs.Source.{Told, Given, Gives, gives, told_after, given_in, given_by, told_by, bytes_given}
use Rattle.wasi_base.specs.Source as given
use Rattle.wasi_base.specs.laws.Reads.{given_left}
use Rattle.wasi_commands.specs.Reading.{HasTaken, IsReadWhole}

given_some : (n : ℕ) (buf : List ℕ) → 0 < n → given_in (Ok n) buf ≡ given.Bytes (take n buf)
given_some zero buf h = absurd (omega arith)
given_some (suc n) buf h = refl

pub read_more : (before after : Option Told) (r n : ℕ) (buf bytes more : List ℕ) (first : Told) → 0 < n → Gives before r (given_in (Ok n) buf) after → HasTaken first before bytes → more ≡ bytes ++ take n buf → HasTaken first after more
read_more before after r n buf bytes more first pos gives_it so_far more_is =
    let next = gives_it.told so_far.at so_far.now_is in
    let is : gives so_far.at r ≡ given.Bytes (take n buf) = sym next.0 ∙ given_some n buf pos in
    record {
      at = told_after so_far.at r;
      now_is = next.1;
      all = rw more_is (append_assoc bytes (take n buf) (told_after so_far.at r).left) ∙ ap (λ left. bytes ++ left) (ap (λ g. bytes_given g ++ (told_after so_far.at r).left) (sym is) ∙ sym (given_left so_far.at.plan so_far.at.left r)) ∙ so_far.all;
    }

nothing_left : (plan : List Plan) (left : List ℕ) (r : ℕ) → given_by plan left r ≡ given.End → (left ≡ []) × ((told_by plan left r).left ≡ [])
nothing_left (Fail kind ∷ plan) left r e = absurd (cc)
nothing_left (Take k ∷ plan) [] r e = (refl, refl)
nothing_left (Take k ∷ plan) (b ∷ left) r e = absurd (cc)
nothing_left [] [] r e = (refl, refl)
nothing_left [] (b ∷ left) r e = absurd (cc)

nothing_given : (plan : List Plan) (left : List ℕ) (r : ℕ) (kind : IoKind) → given_by plan left r ≡ given.Fault kind → (told_by plan left r).left ≡ left
nothing_given (Fail k ∷ plan) left r kind e = refl
nothing_given (Take k ∷ plan) [] r kind e = absurd (cc)
nothing_given (Take k ∷ plan) (b ∷ left) r kind e = absurd (cc)
nothing_given [] [] r kind e = absurd (cc)
nothing_given [] (b ∷ left) r kind e = absurd (cc)

-- at the end all was read
pub read_all : (before after : Option Told) (r : ℕ) (buf bytes : List ℕ) (first : Told) → Gives before r (given_in (Ok 0) buf) after → HasTaken first before bytes → length bytes ≤ 16777216 → (bytes ≡ first.left) × IsReadWhole first after
read_all before after r buf bytes first gives_it so_far short =
    let next = gives_it.told so_far.at so_far.now_is in
    let none = nothing_left so_far.at.plan so_far.at.left r (sym next.0) in
    let all : bytes ≡ first.left = sym (append-nil bytes) ∙ ap (λ left. bytes ++ left) (sym none.0) ∙ so_far.all in (
      all,
      record {
        taken = record { at = told_after so_far.at r; now_is = next.1; all = ap (λ left. first.left ++ left) none.1 ∙ append-nil first.left };
        short = rw (← all) short;
      },
    )

-- a fault takes nothing
pub read_fault : (before after : Option Told) (r : ℕ) (kind : IoKind) (bytes : List ℕ) (first : Told) → Gives before r (given.Fault kind) after → HasTaken first before bytes → HasTaken first after bytes
read_fault before after r kind bytes first gives_it so_far =
    let next = gives_it.told so_far.at so_far.now_is in
    record { at = told_after so_far.at r; now_is = next.1; all = ap (λ left. bytes ++ left) (nothing_given so_far.at.plan so_far.at.left r kind (sym next.0)) ∙ so_far.all }

-- there is room, and never more than one byte past the limit
pub room_some : (most n : ℕ) (room : List ℕ) → most ≡ min (length room) (16777217 - n) → length room ≡ 65536 → n ≤ 16777216 → 0 < length (take most room)
room_some most n room is len within = omega (arith, length-take most room)

pub read_within : (bytes more buf : List ℕ) (most count : ℕ) → more ≡ bytes ++ take count buf → count ≤ length buf → length buf ≤ most → most ≤ 16777217 - length bytes → length bytes ≤ 16777216 → length more ≤ 16777217
read_within bytes more buf most count is fits short limit within = omega (arith, ap length is, length-append bytes (take count buf), length-take count buf)
