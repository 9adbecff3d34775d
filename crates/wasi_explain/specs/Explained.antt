-- The first bad line of a script, and its text.
use Rattle.std.specs.Prelude.{ℕ, ◌-◌, Bool, nat_eq, List, [], Option, Some, None, slice_index_or}
use Rattle.wasi_script.specs.Grammar.{Parsed, Steps, Bad, lines_of}

-- the number of the first line that is not valid, if there is one
abbrev pub bad_line : Parsed → Option ℕ
bad_line (Steps steps) = None
bad_line (Bad number) = Some number

-- the text of the line of a number, counted from 1; nothing past the last one
abbrev pub line_text : List ℕ → ℕ → List ℕ
line_text script number = slice_index_or (lines_of script) (number - 1) []

-- the byte between two lines
abbrev pub is_line_end : ℕ → Bool
is_line_end byte = nat_eq byte 10
