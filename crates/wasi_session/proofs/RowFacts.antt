-- A stream or a tree among the rows of a map by name: found, and written.
use Rattle.std.proofs.Common.{◌≡◌, ℕ, Bool, true, false, cond, List, [], ◌∷◌, Some, None, Result, Ok, Err, refl, ap, sym, ◌∙◌, true≢false}
use Rattle.std.specs.Prelude.{IfOk, OnOk, OnErr, is_some, unwrap_or, Vec}
use Rattle.std.specs.Map.{lookup, set_value}
use Rattle.std.specs.Str.{bytes_eq}
use Rattle.wasi_host.specs.Host.{Named, taken_out, put_back}
use Rattle.wasi_script.specs.Rows.{rows_of}
use Rattle.wasi_script.specs.laws.Rows.{rows_lookup}

module _ {K V : Type 0} (test : K → Bool) where
  pub absent_same : (es : List (K × V)) (w : V) → lookup test es ≡ None → set_value test es w ≡ es
  absent_same [] w e = refl
  absent_same (row ∷ es) w e = by (λ e. absent_same es w e) (test row.0) e
    where
      by : (lookup test es ≡ None → set_value test es w ≡ es) → (b : Bool) → cond b (Some row.1) (lookup test es) ≡ None → cond b ((row.0, w) ∷ es) (row ∷ set_value test es w) ≡ row ∷ es
      by rest true e = absurd (true≢false (ap is_some e))
      by rest false e = ap (λ es. row ∷ es) (rest e)

  pub there_same : (es : List (K × V)) (w : V) → lookup test es ≡ Some w → set_value test es w ≡ es
  there_same [] w e = refl
  there_same (row ∷ es) w e = by (λ e. there_same es w e) (test row.0) e
    where
      by : (lookup test es ≡ Some w → set_value test es w ≡ es) → (b : Bool) → cond b (Some row.1) (lookup test es) ≡ Some w → cond b ((row.0, w) ∷ es) (row ∷ set_value test es w) ≡ row ∷ es
      by rest true e = let same : row.1 ≡ w = cc in ap (λ w. (row.0, w) ∷ es) (sym same)
      by rest false e = ap (λ es. row ∷ es) (rest e)

module _ {A V : Type 0} (name : List ℕ) where
  rows_set : (es : List (Vec ℕ A × V)) (w : V) → rows_of (set_value (λ (key : Vec ℕ A). bytes_eq name key.items) es w) ≡ set_value (bytes_eq name) (rows_of es) w
  rows_set [] w = refl
  rows_set (row ∷ es) w = by (rows_set es w) (bytes_eq name row.0.items)
    where
      by : rows_of (set_value (λ (key : Vec ℕ A). bytes_eq name key.items) es w) ≡ set_value (bytes_eq name) (rows_of es) w → (b : Bool) → rows_of (cond b ((row.0, w) ∷ es) (row ∷ set_value (λ (key : Vec ℕ A). bytes_eq name key.items) es w)) ≡ cond b ((row.0.items, w) ∷ rows_of es) ((row.0.items, row.1) ∷ set_value (bytes_eq name) (rows_of es) w)
      by rest true = refl
      by rest false = ap (λ es. (row.0.items, row.1) ∷ es) rest

-- a stream that is there: it is the one that is taken out, and what is written is put back
pub row_there : {A S : Type 0} (none : S) (es : List (Vec ℕ A × S)) (name : List ℕ) (it : S) → Some it ≡ lookup (λ (key : Vec ℕ A). bytes_eq name key.items) es → taken_out none name (rows_of es) ≡ it
row_there none es name it found = ap (λ o. unwrap_or o none) (rows_lookup name es ∙ sym found)

pub row_put : {A S : Type 0} (es es' : List (Vec ℕ A × S)) (name : List ℕ) (it : S) → es' ≡ set_value (λ (key : Vec ℕ A). bytes_eq name key.items) es it → rows_of es' ≡ put_back name it (rows_of es)
row_put es es' name it after = ap rows_of after ∙ rows_set name es it

pub row_again : {A S : Type 0} (es es' : List (Vec ℕ A × S)) (name : List ℕ) (it after : S) → Some it ≡ lookup (λ (key : Vec ℕ A). bytes_eq name key.items) es → es' ≡ set_value (λ (key : Vec ℕ A). bytes_eq name key.items) es after → after ≡ it → es' ≡ es
row_again {A} es es' name it after found put same = put ∙ ap (λ it. set_value (λ (key : Vec ℕ A). bytes_eq name key.items) es it) same ∙ there_same (λ (key : Vec ℕ A). bytes_eq name key.items) es it (sym found)

-- and one that is not
pub row_none : {A S : Type 0} (none : S) (es : List (Vec ℕ A × S)) (name : List ℕ) → None ≡ lookup (λ (key : Vec ℕ A). bytes_eq name key.items) es → taken_out none name (rows_of es) ≡ none
row_none none es name absent = ap (λ o. unwrap_or o none) (rows_lookup name es ∙ sym absent)

pub none_put : {A S : Type 0} (es : List (Vec ℕ A × S)) (name : List ℕ) (it : S) → None ≡ lookup (λ (key : Vec ℕ A). bytes_eq name key.items) es → put_back name it (rows_of es) ≡ rows_of es
none_put es name it absent = absent_same (bytes_eq name) (rows_of es) it (rows_lookup name es ∙ sym absent)

-- ---- what a call on a stream or a tree under a name leaves of all; `whole` puts one kind of them beside the others
module _ {E A D S W : Type 0} (whole : Named S → W) (none : S) (result : Result D E) (es es' : List (Vec ℕ A × S)) (name : List ℕ) where
  abbrev here : Vec ℕ A → Bool
  here key = bytes_eq name key.items

  pub left_there : (it after : S) (leaves : S → S) → Some it ≡ lookup here es → es' ≡ set_value here es after → OnOk result (after ≡ leaves it) → OnOk result (whole (rows_of es') ≡ whole (put_back name (leaves (taken_out none name (rows_of es))) (rows_of es)))
  left_there it after leaves found put left = by result left
    where
      by : (result : Result D E) → OnOk result (after ≡ leaves it) → OnOk result (whole (rows_of es') ≡ whole (put_back name (leaves (taken_out none name (rows_of es))) (rows_of es)))
      by (Err e) left = tt
      by (Ok d) left = ap whole (row_put es es' name after put ∙ ap (λ it. put_back name it (rows_of es)) (left ∙ ap leaves (sym (row_there none es name it found))))

  pub made_there : (P : D → Type 0) (it after : S) → Some it ≡ lookup here es → es' ≡ set_value here es after → IfOk result (λ d. P d → after ≡ it) → IfOk result (λ d. P d → whole (rows_of es') ≡ whole (rows_of es))
  made_there P it after found put made = by result made
    where
      by : (result : Result D E) → IfOk result (λ d. P d → after ≡ it) → IfOk result (λ d. P d → whole (rows_of es') ≡ whole (rows_of es))
      by (Err e) made = tt
      by (Ok d) made = λ is. ap (λ es. whole (rows_of es)) (row_again es es' name it after found put (made is))

  pub err_there : (it after : S) → Some it ≡ lookup here es → es' ≡ set_value here es after → OnErr result (after ≡ it) → OnErr result (whole (rows_of es') ≡ whole (rows_of es))
  err_there it after found put same = by result same
    where
      by : (result : Result D E) → OnErr result (after ≡ it) → OnErr result (whole (rows_of es') ≡ whole (rows_of es))
      by (Ok d) same = tt
      by (Err e) same = ap (λ es. whole (rows_of es)) (row_again es es' name it after found put same)

  pub left_none : (it : S) → None ≡ lookup here es → es' ≡ es → OnOk result (whole (rows_of es') ≡ whole (put_back name it (rows_of es)))
  left_none it absent same = by result
    where
      by : (result : Result D E) → OnOk result (whole (rows_of es') ≡ whole (put_back name it (rows_of es)))
      by (Err e) = tt
      by (Ok d) = ap whole (ap rows_of same ∙ sym (none_put es name it absent))

  pub made_none : (P : D → Type 0) → es' ≡ es → IfOk result (λ d. P d → whole (rows_of es') ≡ whole (rows_of es))
  made_none P same = by result
    where
      by : (result : Result D E) → IfOk result (λ d. P d → whole (rows_of es') ≡ whole (rows_of es))
      by (Err e) = tt
      by (Ok d) = λ is. ap (λ es. whole (rows_of es)) same

  pub err_none : es' ≡ es → OnErr result (whole (rows_of es') ≡ whole (rows_of es))
  err_none same = by result
    where
      by : (result : Result D E) → OnErr result (whole (rows_of es') ≡ whole (rows_of es))
      by (Ok d) = tt
      by (Err e) = ap (λ es. whole (rows_of es)) same
