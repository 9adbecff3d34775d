-- What each kind of stage makes of the bytes that it takes.
use Rattle.std.specs.Prelude.{ℕ, zero, suc, ◌-◌, Bool, false, cond, ◌&&◌, nat_eq, nat_le, List, [], ◌∷◌, ◌++◌, length, map, Option, Some, None}
use Rattle.hex.specs.Hex.{encode_lower}
use Rattle.wasi_pipeline.specs.declared.kind.StageKind.{StageKind}
use Rattle.wasi_pipeline.specs.declared.kind.StageKind.TheVariants.{Copy, Upper, Hex, Squeeze}
use Rattle.wasi_pipeline.specs.declared.kind.Made.{Made}
use Rattle.wasi_pipeline.specs.declared.kind.Made.TheVariants.{Nothing, One, Two}

-- `a` to `z` as `A` to `Z`, every other byte as it is
abbrev pub upper_of : ℕ → ℕ
upper_of byte = cond (nat_le 97 byte && nat_le byte 122) (byte - 32) byte

-- the bytes after this one, but those that are equal to the one right before them
abbrev pub squeezed_after : ℕ → List ℕ → List ℕ
squeezed_after before [] = []
squeezed_after before (byte ∷ bytes) = cond (nat_eq before byte) (squeezed_after byte bytes) (byte ∷ squeezed_after byte bytes)

abbrev pub squeezed : List ℕ → List ℕ
squeezed [] = []
squeezed (byte ∷ bytes) = byte ∷ squeezed_after byte bytes

-- what a stage makes of all the bytes that it took
abbrev pub made : StageKind → List ℕ → List ℕ
made Copy bytes = bytes
made Upper bytes = map upper_of bytes
made Hex bytes = encode_lower bytes
made Squeeze bytes = squeezed bytes

-- what one byte more becomes, after the last one before it
abbrev pub is_repeated : Option ℕ → ℕ → Bool
is_repeated None byte = false
is_repeated (Some last) byte = nat_eq last byte

abbrev pub becomes : StageKind → Option ℕ → ℕ → List ℕ
becomes Copy last byte = byte ∷ []
becomes Upper last byte = upper_of byte ∷ []
becomes Hex last byte = encode_lower (byte ∷ [])
becomes Squeeze last byte = cond (is_repeated last byte) [] (byte ∷ [])

abbrev pub made_bytes : Made → List ℕ
made_bytes Nothing = []
made_bytes (One byte) = byte ∷ []
made_bytes (Two first second) = first ∷ second ∷ []

-- the most bytes that one byte becomes
abbrev pub most_made : StageKind → ℕ
most_made Copy = 1
most_made Upper = 1
most_made Hex = 2
most_made Squeeze = 1

-- what bytes become in order, after the last one before them
abbrev pub become_all : StageKind → Option ℕ → List ℕ → List ℕ
become_all kind last [] = []
become_all kind last (byte ∷ bytes) = becomes kind last byte ++ become_all kind (Some byte) bytes

-- the last of some bytes, or else of those before them
abbrev pub last_after : Option ℕ → List ℕ → Option ℕ
last_after before [] = before
last_after before (byte ∷ bytes) = last_after (Some byte) bytes

-- what a stage did: how many bytes it took, the last one, those that are left, and what it made
pub record Moved : Type 0 where
  pub count : ℕ
  pub last : Option ℕ
  pub left : List ℕ
  pub made : List ℕ

abbrev pub stays : Option ℕ → List ℕ → Moved
stays last bytes = record { count = 0; last = last; left = bytes; made = [] }

abbrev pub with_byte : List ℕ → Moved → Moved
with_byte first moved = record { count = suc moved.count; last = moved.last; left = moved.left; made = first ++ moved.made }

-- bytes taken in order, at most so many, each only while there is room for what it becomes
abbrev pub moving : StageKind → Option ℕ → ℕ → ℕ → List ℕ → Moved
moving kind last most room [] = stays last []
moving kind last zero room (byte ∷ bytes) = stays last (byte ∷ bytes)
moving kind last (suc most) room (byte ∷ bytes) =
    cond (nat_le (length (becomes kind last byte)) room)
    (with_byte (becomes kind last byte) (moving kind (Some byte) most (room - length (becomes kind last byte)) bytes))
    (stays last (byte ∷ bytes))
