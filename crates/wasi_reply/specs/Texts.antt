-- Lists of texts as lists of their bytes.
use Rattle.std.specs.Prelude.{ℕ, List, map, String, string_bytes}
use Rattle.std.specs.declared.alloc.Global.{Global}

abbrev pub texts : List (String Global) → List (List ℕ)
texts strings = map string_bytes strings

abbrev pub text_pair : String Global × String Global → List ℕ × List ℕ
text_pair pair = (string_bytes pair.0, string_bytes pair.1)

abbrev pub text_pairs : List (String Global × String Global) → List (List ℕ × List ℕ)
text_pairs pairs = map text_pair pairs
