-- The names in a directory, ascending by their bytes, each with its node.
use Rattle.std.specs.Prelude.{ℕ, List, [], ◌∷◌, Option, Bool, true, false, String, string_bytes}
use Rattle.std.specs.Ordering.{nat_cmp}
use Rattle.std.specs.Cmp.Lexicographic.{slice_cmp}
use Rattle.std.specs.BTreeMap.{is_at, insert_entry}
use Rattle.std.specs.List.Sorted.{IsStrictlySortedBy}
use Rattle.std.specs.Map.{lookup, remove_entry, set_value}

-- the node of a name
abbrev pub entry_of : List (List ℕ × ℕ) → List ℕ → Option ℕ
entry_of names name = lookup (is_at (slice_cmp nat_cmp name)) names

-- with a new name for a node, in its place
abbrev pub with_entry : List (List ℕ × ℕ) → List ℕ → ℕ → List (List ℕ × ℕ)
with_entry names name node = insert_entry (slice_cmp nat_cmp) names name node

-- with another node under a name that is there
abbrev pub with_other : List (List ℕ × ℕ) → List ℕ → ℕ → List (List ℕ × ℕ)
with_other names name node = set_value (is_at (slice_cmp nat_cmp name)) names node

-- without a name
abbrev pub without_entry : List (List ℕ × ℕ) → List ℕ → List (List ℕ × ℕ)
without_entry names name = remove_entry (is_at (slice_cmp nat_cmp name)) names

abbrev pub has_no_names : List (List ℕ × ℕ) → Bool
has_no_names [] = true
has_no_names (e ∷ names) = false

-- each name is below those after it, by their bytes
abbrev pub IsAscending : List (List ℕ) → Type 0
IsAscending names = IsStrictlySortedBy (slice_cmp nat_cmp) names

-- the entries of a map, with the bytes of each key
abbrev pub entries_of_map : {A : Type 0} → List (String A × ℕ) → List (List ℕ × ℕ)
entries_of_map [] = []
entries_of_map (e ∷ es) = (string_bytes e.0, e.1) ∷ entries_of_map es
