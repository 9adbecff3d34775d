-- What holds of every table that calls made.
use Rattle.std.specs.Prelude.{◌≡◌, ℕ, ◌+◌, ◌≤◌, ◌<◌, false, eqb, List, [], ◌∷◌, length, None, IsSome}
use Rattle.std.specs.List.{list_any}
use Rattle.wasi_table.specs.Table.{Table, held_at, live_count}

-- the freed numbers were given once, are not live, and no two are the same
abbrev pub AreFree : {E : Type 0} → Table E → List ℕ → Type 0
AreFree t [] = Unit {0}
AreFree t (n ∷ ns) = (held_at t n ≡ None) × (n < t.next) × (list_any (eqb n) ns ≡ false) × AreFree t ns

pub record IsTable {E : Type 0} (t : Table E) : Type 0 where
  pub free : AreFree t t.freed
  pub given : (n : ℕ) → IsSome (held_at t n) → n < t.next
  pub counted : live_count t + length t.freed ≡ t.next
  pub room : live_count t ≤ t.capacity
  pub within : t.next ≤ t.capacity
  pub not_empty : 1 ≤ t.capacity
  pub bound : t.capacity ≤ 65536
