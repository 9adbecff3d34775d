-- How the code keeps a table.
use Rattle.std.specs.Prelude.{◌≡◌, ℕ, ◌≤◌, ◌<◌, cond, Bool, true, false, List, [], ◌∷◌, length, reverse, IsSome, Option, Some, None}
use Rattle.std.specs.List.{sum_by}
use Rattle.std.specs.List.Sorted.{IsStrictlySortedBy}
use Rattle.std.specs.Ordering.{nat_cmp}
use Rattle.std.specs.FinMap as map
use Rattle.std.specs.Map.{keys_of, values_of, lookup}
use Rattle.std.specs.BTreeMap.{is_at}
use Rattle.wasi_table.specs.declared.rows.Row.{Row}
use Rattle.wasi_table.specs.Table.{Table, Held, is_number}
use Rattle.wasi_table.specs.Sound.{IsTable}

abbrev pub held_in : {E : Type 0} → Row E → Held E
held_in row = record { entry = row.entry; parent = row.parent }

abbrev pub held_rows : {E : Type 0} → List (ℕ × Row E) → List (ℕ × Held E)
held_rows [] = []
held_rows (e ∷ es) = (e.0, held_in e.1) ∷ held_rows es

abbrev pub table_of : {E : Type 0} → List (ℕ × Row E) → List ℕ → ℕ → ℕ → Table E
table_of rows freed next capacity = record {
  entries = map.from_sorted (held_rows rows);
  freed = reverse freed;
  next = next;
  capacity = capacity;
}

abbrev pub row_at : {E : Type 0} → List (ℕ × Row E) → ℕ → Option (Row E)
row_at rows n = lookup (is_at (nat_cmp n)) rows

abbrev pub names : {E : Type 0} → ℕ → Row E → ℕ
names n row = cond (is_number n row.parent) 1 0

-- how many rows name n as parent
abbrev pub named : {E : Type 0} → List (ℕ × Row E) → ℕ → ℕ
named rows n = sum_by (names n) (values_of rows)

abbrev pub children_in : {E : Type 0} → Option (Row E) → ℕ
children_in None = 0
children_in (Some row) = row.children

-- each row counts its children, and a number with no row has none
pub record IsKept {E : Type 0} (rows : List (ℕ × Row E)) (freed : List ℕ) (next capacity reserved : ℕ) : Type 0 where
  pub ordered : IsStrictlySortedBy nat_cmp (keys_of rows)
  pub sound : IsTable (table_of rows freed next capacity)
  pub counts : (n : ℕ) → named rows n ≡ children_in (row_at rows n)
  pub places : next ≤ reserved

-- where a row may be added
pub record CanAdd {E : Type 0} (n : ℕ) (parent : Option ℕ) (rows : List (ℕ × Row E)) : Type 0 where
  pub absent : row_at rows n ≡ None
  pub parent_live : (p : ℕ) → parent ≡ Some p → IsSome (row_at rows p)
  pub counts : (q : ℕ) → named rows q ≡ children_in (row_at rows q)
  pub small : length rows ≤ 65536

-- a row more, whose parent counts it
pub record IsAdded {E : Type 0} (n : ℕ) (entry : E) (parent : Option ℕ) (rows after : List (ℕ × Row E)) : Type 0 where
  pub ordered : IsStrictlySortedBy nat_cmp (keys_of after)
  pub entries : map.from_sorted {R = nat_cmp} (held_rows after) ≡ map.insert (map.from_sorted (held_rows rows)) n (record { entry = entry; parent = parent })
  pub counts : (q : ℕ) → named after q ≡ children_in (row_at after q)

-- ---- the parent's count
abbrev pub recounted : {E : Type 0} → (ℕ → ℕ) → Bool → Option (Row E) → ℕ
recounted f b None = 0
recounted f true (Some row) = f row.children
recounted f false (Some row) = row.children

-- a parent that has a row counts a child
abbrev pub IsCounted : {E : Type 0} → Option ℕ → List (ℕ × Row E) → Type 0
IsCounted None rows = Unit {0}
IsCounted (Some n) rows = 0 < children_in (row_at rows n)

-- the rows are the same but for the parent's count
pub record IsRecount {E : Type 0} (f : ℕ → ℕ) (parent : Option ℕ) (rows after : List (ℕ × Row E)) : Type 0 where
  pub ordered : IsStrictlySortedBy nat_cmp (keys_of after)
  pub held : held_rows after ≡ held_rows rows
  pub named : (n : ℕ) → named after n ≡ named rows n
  pub children : (n : ℕ) → children_in (row_at after n) ≡ recounted f (is_number n parent) (row_at rows n)
