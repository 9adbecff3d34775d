-- The kinds of field in the text of a reply, and the text of each.
use Rattle.std.specs.Prelude.{ℕ, ◌<◌, ◌^◌, List, [], ◌∷◌, ◌++◌, map, codes}
use Rattle.std.specs.Fmt.{decimal}
use Rattle.std.specs.List.{AllByRecursion, flat_map}
use Rattle.hex.specs.Hex.{IsBytes, encode_lower}
use Rattle.wasi_base.specs.declared.io_kind.IoKind.{IoKind}
use Rattle.wasi_base.specs.declared.trap_text.TrapText.{TrapText}
use Rattle.wasi_base.specs.declared.trap_text.TrapText.TheVariants.{RequestedLength}
use Rattle.wasi_base.specs.IoKind.{kind_name}
use Rattle.wasi_base.specs.TrapText.{trap_text}

pub data Field : Type 0 where
  Number : ℕ → Field
  Hex : List ℕ → Field
  Kind : IoKind → Field
  -- these are a reply's last field: a trap's text has spaces, and a list with no item has no text
  Trap : TrapText → Field
  Texts : List (List ℕ) → Field
  Pairs : List (List ℕ × List ℕ) → Field

-- lower-case hexadecimal, `-` for none
abbrev pub hex_of : List ℕ → List ℕ
hex_of [] = codes "-"
hex_of (byte ∷ bytes) = encode_lower (byte ∷ bytes)

abbrev pub pair_text : List ℕ × List ℕ → List ℕ
pair_text pair = hex_of pair.0 ++ codes "=" ++ hex_of pair.1

-- items after one space and joined by commas; no text where there is none
abbrev pub items_text : List (List ℕ) → List ℕ
items_text [] = []
items_text (first ∷ rest) = codes " " ++ (first ++ flat_map (λ item. codes "," ++ item) rest)

-- a field with the space before it
abbrev pub field_text : Field → List ℕ
field_text (Field.Number number) = codes " " ++ decimal number
field_text (Field.Hex bytes) = codes " " ++ hex_of bytes
field_text (Field.Kind kind) = codes " " ++ kind_name kind
field_text (Field.Trap trap) = codes " " ++ trap_text trap
field_text (Field.Texts texts) = items_text (map hex_of texts)
field_text (Field.Pairs pairs) = items_text (map pair_text pairs)

abbrev pub fields_text : List Field → List ℕ
fields_text fields = flat_map field_text fields

-- a word, and then its fields
abbrev pub worded : List ℕ × List Field → List ℕ
worded said = said.0 ++ fields_text said.1

-- its numbers fit 64 bits, and its bytes are bytes, as the types of the code see to
abbrev pub IsTrap : TrapText → Type 0
IsTrap (RequestedLength length limit) = (length < 2 ^ 64) × (limit < 2 ^ 64)
IsTrap _ = Unit {0}

abbrev pub IsField : Field → Type 0
IsField (Field.Number number) = number < 2 ^ 64
IsField (Field.Hex bytes) = IsBytes bytes
IsField (Field.Kind kind) = Unit {0}
IsField (Field.Trap trap) = IsTrap trap
IsField (Field.Texts texts) = AllByRecursion IsBytes texts
IsField (Field.Pairs pairs) = AllByRecursion (λ pair. IsBytes pair.0 × IsBytes pair.1) pairs
