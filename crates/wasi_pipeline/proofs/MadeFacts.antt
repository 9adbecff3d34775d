-- What a stage makes byte by byte is what its kind makes of all of them.
use Rattle.std.proofs.Common.{◌≡◌, ℕ, zero, suc, ◌-◌, ◌≤◌, ◌++◌, Bool, true, false, cond, List, [], ◌∷◌, length, length-append, map, Option, Some, None, refl, ap, arith, ◌∙◌, sym, append_assoc, append-nil}
use Rattle.std.proofs.lemmas.Bool.Decides.{nat_tests}
use Rattle.std.specs.Prelude.{nat_eq, nat_le}
use Rattle.hex.specs.Hex.{encode_lower, encode_with}
use Rattle.wasi_pipeline.specs.Kinds.{Moved, become_all, becomes, last_after, made, moving, squeezed_after, stays, upper_of, with_byte}
use Rattle.wasi_pipeline.specs.declared.kind.StageKind.{StageKind}
use Rattle.wasi_pipeline.specs.declared.kind.StageKind.TheVariants.{Copy, Upper, Hex, Squeeze}

copied : (last : Option ℕ) (bytes : List ℕ) → become_all Copy last bytes ≡ bytes
copied last [] = refl
copied last (byte ∷ bytes) = ap (λ rest. byte ∷ rest) (copied (Some byte) bytes)

raised : (last : Option ℕ) (bytes : List ℕ) → become_all Upper last bytes ≡ map upper_of bytes
raised last [] = refl
raised last (byte ∷ bytes) = ap (λ rest. upper_of byte ∷ rest) (raised (Some byte) bytes)

encoded : (last : Option ℕ) (bytes : List ℕ) → become_all Hex last bytes ≡ encode_lower bytes
unfolding encode_with
encoded last [] = refl
encoded last (byte ∷ bytes) = ap (λ rest. encode_lower (byte ∷ []) ++ rest) (encoded (Some byte) bytes)

squeezed_is : (before : ℕ) (bytes : List ℕ) → become_all Squeeze (Some before) bytes ≡ squeezed_after before bytes
squeezed_is before [] = refl
squeezed_is before (byte ∷ bytes) = one (nat_eq before byte) (squeezed_is byte bytes)
  where
    one : (same : Bool) → become_all Squeeze (Some byte) bytes ≡ squeezed_after byte bytes → cond same [] (byte ∷ []) ++ become_all Squeeze (Some byte) bytes ≡ cond same (squeezed_after byte bytes) (byte ∷ squeezed_after byte bytes)
    one true is = is
    one false is = ap (λ rest. byte ∷ rest) is

pub made_is : (kind : StageKind) (bytes : List ℕ) → become_all kind None bytes ≡ made kind bytes
made_is Copy bytes = copied None bytes
made_is Upper bytes = raised None bytes
made_is Hex bytes = encoded None bytes
made_is Squeeze [] = refl
made_is Squeeze (byte ∷ bytes) = ap (λ rest. byte ∷ rest) (squeezed_is byte bytes)

made_both : (kind : StageKind) (last : Option ℕ) (first bytes : List ℕ) → become_all kind last (first ++ bytes) ≡ become_all kind last first ++ become_all kind (last_after last first) bytes
made_both kind last [] bytes = refl
made_both kind last (byte ∷ first) bytes = ap (λ rest. becomes kind last byte ++ rest) (made_both kind (Some byte) first bytes) ∙ sym (append_assoc (becomes kind last byte) (become_all kind (Some byte) first) (become_all kind (last_after (Some byte) first) bytes))

-- what is made of more bytes, after those that were taken before
pub made_more : (kind : StageKind) (first bytes : List ℕ) → made kind first ++ become_all kind (last_after None first) bytes ≡ made kind (first ++ bytes)
made_more kind first bytes = ap (λ made. made ++ become_all kind (last_after None first) bytes) (sym (made_is kind first)) ∙ sym (made_both kind None first bytes) ∙ made_is kind (first ++ bytes)

-- .. and of one byte more
pub made_one : (kind : StageKind) (last : Option ℕ) (first : List ℕ) (byte : ℕ) → become_all kind last (first ++ byte ∷ []) ≡ become_all kind last first ++ becomes kind (last_after last first) byte
made_one kind last first byte = made_both kind last first (byte ∷ []) ∙ ap (λ more. become_all kind last first ++ more) (append-nil (becomes kind (last_after last first) byte))

pub last_both : (last : Option ℕ) (first bytes : List ℕ) → last_after (last_after last first) bytes ≡ last_after last (first ++ bytes)
last_both last [] bytes = refl
last_both last (byte ∷ first) bytes = last_both (Some byte) first bytes

-- what a stage did took first bytes of those that were held, and what it made of them fits the room
pub record Moves (kind : StageKind) (last : Option ℕ) (room : ℕ) (held : List ℕ) (moved : Moved) : Type 0 where
  pub taken : List ℕ
  pub whole : held ≡ taken ++ moved.left
  pub made : moved.made ≡ become_all kind last taken
  pub last_is : moved.last ≡ last_after last taken
  pub fits : length moved.made ≤ room

nothing_moved : (kind : StageKind) (last : Option ℕ) (room : ℕ) (held : List ℕ) → Moves kind last room held (stays last held)
nothing_moved kind last room held = record { taken = []; whole = refl; made = refl; last_is = refl; fits = omega arith }

pub moves : (kind : StageKind) (last : Option ℕ) (most room : ℕ) (held : List ℕ) → Moves kind last room held (moving kind last most room held)
moves kind last most room [] = nothing_moved kind last room []
moves kind last zero room (byte ∷ bytes) = nothing_moved kind last room (byte ∷ bytes)
moves kind last (suc most) room (byte ∷ bytes) = by_test (nat_le (length first) room) refl (moves kind (Some byte) most (room - length first) bytes)
  where
    first : List ℕ
    first = becomes kind last byte

    rest : Moved
    rest = moving kind (Some byte) most (room - length first) bytes

    by_test : (fits : Bool) → nat_le (length first) room ≡ fits → Moves kind (Some byte) (room - length first) bytes rest → Moves kind last room (byte ∷ bytes) (cond fits (with_byte first rest) (stays last (byte ∷ bytes)))
    by_test true fits more = record {
      taken = byte ∷ more.taken;
      whole = ap (λ bytes. byte ∷ bytes) more.whole;
      made = ap (λ made. first ++ made) more.made;
      last_is = more.last_is;
      fits = let within : length first ≤ room = grind (arith, nat_tests, fits) in omega (arith, length-append first rest.made, more.fits, within);
    }
    by_test false fits more = nothing_moved kind last room (byte ∷ bytes)
