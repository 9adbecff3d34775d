-- Where a stage stops taking bytes.
use Rattle.std.proofs.Common.{◌≡◌, ℕ, zero, suc, ◌+◌, ◌-◌, ◌*◌, ◌<◌, ◌≤◌, Bool, true, false, cond, List, [], ◌∷◌, ◌++◌, length, take, drop, Option, Some, None, refl, ap, arith, ◌∙◌, sym, append_assoc, length-append}
use Rattle.std.proofs.lemmas.Bool.Decides.{nat_tests}
use Rattle.std.proofs.lemmas.Grind.{common_steps}
use Rattle.std.proofs.Math.Nat.{mul-suc}
use Rattle.std.specs.Prelude.{nat_eq, nat_le, slice_get}
use Rattle.hex.specs.Hex.{encode_with}
use Rattle.wasi_pipeline.specs.Chain.{room_of}
use Rattle.wasi_pipeline.specs.Link.{LinkState}
use Rattle.wasi_pipeline.specs.Kinds.{Moved, become_all, becomes, last_after, most_made, moving, stays, with_byte}
use Rattle.wasi_pipeline.specs.declared.kind.StageKind.{StageKind}
use Rattle.wasi_pipeline.specs.declared.kind.StageKind.TheVariants.{Copy, Upper, Hex, Squeeze}

pub link_is : (link : LinkState) (bound : ℕ) (held : List ℕ) → link.bound ≡ bound → link.held ≡ held → link ≡ record { bound = bound; held = held }
link_is link bound held same_bound same_held = rw (← same_bound, ← same_held) refl

pub nothing_left : (kind : StageKind) (last : Option ℕ) (most room : ℕ) (held : List ℕ) → slice_get held 0 ≡ None → moving kind last most room held ≡ stays last held
nothing_left kind last most room [] none = refl
nothing_left kind last most room (byte ∷ bytes) none = absurd (cc)

pub none_asked : (kind : StageKind) (last : Option ℕ) (most room : ℕ) (held : List ℕ) → most ≡ 0 → moving kind last most room held ≡ stays last held
none_asked kind last most room [] none = refl
none_asked kind last zero room (byte ∷ bytes) none = refl
none_asked kind last (suc most) room (byte ∷ bytes) none = absurd (omega arith)

pub no_room : (kind : StageKind) (last : Option ℕ) (most room byte : ℕ) (held : List ℕ) → slice_get held 0 ≡ Some byte → room < length (becomes kind last byte) → moving kind last most room held ≡ stays last held
no_room kind last most room byte [] first more = refl
no_room kind last zero room byte (other ∷ bytes) first more = refl
no_room kind last (suc most) room byte (other ∷ bytes) first more =
    let same : other ≡ byte = cc in
    let no : nat_le (length (becomes kind last other)) room ≡ false = rw same (grind (arith, nat_tests)) in
    rw no refl

-- a move, and then another one
abbrev pub joined : ℕ → List ℕ → Moved → Moved
joined count first moved = record { count = count + moved.count; last = moved.last; left = moved.left; made = first ++ moved.made }

pub one_fits : (kind : StageKind) (last : Option ℕ) (byte : ℕ) → length (becomes kind last byte) ≤ most_made kind
unfolding encode_with
one_fits Copy last byte = omega arith
one_fits Upper last byte = omega arith
one_fits Hex last byte = omega arith
one_fits Squeeze None byte = omega arith
one_fits Squeeze (Some last) byte = one (nat_eq last byte)
  where
    one : (same : Bool) → length (cond same [] (byte ∷ [])) ≤ 1
    one true = omega arith
    one false = omega arith

pub all_fit : (kind : StageKind) (last : Option ℕ) (bytes : List ℕ) → length (become_all kind last bytes) ≤ most_made kind * length bytes
all_fit kind last [] = omega arith
all_fit kind last (byte ∷ bytes) = omega (arith, one_fits kind last byte, all_fit kind (Some byte) bytes, length-append (becomes kind last byte) (become_all kind (Some byte) bytes), mul-suc (most_made kind) (length bytes))

same_count : (n : ℕ) (moved : Moved) → n ≡ moved.count → record { count = n; last = moved.last; left = moved.left; made = moved.made } ≡ moved
same_count n moved e = rw e refl

with_joined : (n : ℕ) (first made : List ℕ) (moved : Moved) → with_byte first (joined n made moved) ≡ joined (suc n) (first ++ made) moved
with_joined n first made moved =
    let count : suc (n + moved.count) ≡ suc n + moved.count = omega arith in
    rw (count, append_assoc first made moved.made) refl

-- bytes for which there is room whatever they become are all taken
pub piece_first : (kind : StageKind) (last : Option ℕ) (n more room : ℕ) (held : List ℕ) → n ≤ length held → most_made kind * n ≤ room → moving kind last (n + more) room held ≡ joined n (become_all kind last (take n held)) (moving kind (last_after last (take n held)) more (room - length (become_all kind last (take n held))) (drop n held))
piece_first kind last zero more room held short fits =
    let asked : zero + more ≡ more = omega arith in
    let all : room ≡ room - 0 = omega arith in
    ap (λ n. moving kind last n room held) asked ∙ ap (λ r. moving kind last more r held) all ∙ sym (same_count _ (moving kind last more (room - 0) held) (omega arith))
piece_first kind last (suc n) more room [] short fits = absurd (omega (arith, short))
piece_first kind last (suc n) more room (byte ∷ bytes) short fits =
    let first : List ℕ = becomes kind last byte in
    let one : length first ≤ most_made kind = one_fits kind last byte in
    let within : length first ≤ room = omega (arith, one, fits, mul-suc (most_made kind) n) in
    let rest : List ℕ = become_all kind (Some byte) (take n bytes) in
    let then = piece_first kind (Some byte) n more (room - length first) bytes (omega (arith, short)) (omega (arith, one, fits, mul-suc (most_made kind) n)) in
    let asked : suc n + more ≡ suc (n + more) = omega arith in
    let yes : nat_le (length first) room ≡ true = grind (arith, nat_tests) in
    let room_is : room - length first - length rest ≡ room - length (first ++ rest) = omega (arith, length-append first rest) in
    ap (λ n. moving kind last n room (byte ∷ bytes)) asked
    ∙ ap (λ fits. cond fits (with_byte first (moving kind (Some byte) (n + more) (room - length first) bytes)) (stays last (byte ∷ bytes))) yes
    ∙ ap (with_byte first) then
    ∙ with_joined n first rest (moving kind (last_after (Some byte) (take n bytes)) more (room - length first - length rest) (drop n bytes))
    ∙ ap (λ r. joined (suc n) (first ++ rest) (moving kind (last_after (Some byte) (take n bytes)) more r (drop n bytes))) room_is

-- what is left to do after a piece
pub after_piece : (kind : StageKind) (last then : Option ℕ) (k most count : ℕ) (from to left more : LinkState) → k ≤ most - count → k ≤ length from.held → most_made kind * k ≤ room_of to → then ≡ last_after last (take k from.held) → left ≡ record { bound = from.bound; held = drop k from.held } → more ≡ record { bound = to.bound; held = to.held ++ become_all kind last (take k from.held) } → moving kind last (most - count) (room_of to) from.held ≡ joined k (become_all kind last (take k from.held)) (moving kind then (most - (count + k)) (room_of more) left.held)
after_piece kind last then k most count from to left more asked short fits then_is left_is more_is =
    let made : List ℕ = become_all kind last (take k from.held) in
    let asked_is : most - count ≡ k + (most - (count + k)) = omega (arith, asked) in
    let room_is : to.bound - length to.held - length made ≡ to.bound - length (to.held ++ made) = omega (arith, length-append to.held made) in
    ap (λ n. moving kind last n (room_of to) from.held) asked_is
    ∙ piece_first kind last k (most - (count + k)) (room_of to) from.held short fits
    ∙ ap (λ r. joined k made (moving kind (last_after last (take k from.held)) (most - (count + k)) r (drop k from.held))) room_is
    ∙ ap (λ (link : LinkState). joined k made (moving kind (last_after last (take k from.held)) (most - (count + k)) (room_of link) (drop k from.held))) (sym more_is)
    ∙ ap (λ (link : LinkState). joined k made (moving kind (last_after last (take k from.held)) (most - (count + k)) (room_of more) link.held)) (sym left_is)
    ∙ ap (λ last. joined k made (moving kind last (most - (count + k)) (room_of more) left.held)) (sym then_is)
