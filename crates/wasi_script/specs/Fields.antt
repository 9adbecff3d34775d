-- The fields of lines that are numbers.
use Rattle.std.specs.Prelude.{ℕ, List, Option}
pub use Rattle.wasi_words.specs.Fields.{words_of, number_of, u128_of, number_between, is_at_end, only_field, with_first, with_last}

abbrev pub guest_of : List ℕ → Option ℕ
guest_of = number_between 0 63

-- the number of a named context
abbrev pub context_id_of : List ℕ → Option ℕ
context_id_of = number_between 0 15

-- a table's capacity
abbrev pub capacity_of : List ℕ → Option ℕ
capacity_of = number_between 1 65536

-- the room of an output, in bytes
abbrev pub room_of : List ℕ → Option ℕ
room_of = number_between 0 1048576

-- how often a byte is repeated
abbrev pub count_of : List ℕ → Option ℕ
count_of = number_between 1 1048576

-- the budget of an output that buffers, in bytes
abbrev pub budget_of : List ℕ → Option ℕ
budget_of = number_between 1 1048576

abbrev pub exit_code_of : List ℕ → Option ℕ
exit_code_of = number_between 0 255

-- two fields, and no more
abbrev pub two_fields : {A B : Type 0} → (List ℕ → Option A) → (List ℕ → Option B) → List (List ℕ) → Option (A × B)
two_fields first second = with_first first (λ it. with_last second (λ other. (it, other)))
