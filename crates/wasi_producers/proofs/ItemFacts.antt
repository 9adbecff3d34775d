use Rattle.std.proofs.Common.{◌≡◌, List, [], ◌∷◌, ◌++◌, ◌+◌, ℕ, length, Result, refl, sym, subst, ap, ◌∙◌}
use Rattle.std.proofs.lemmas.List.{length_push}
use Rattle.std.specs.Prelude.{Option, Some, Ok}
use Rattle.wasi_producers.specs.Iterators.{ItemsCome, ItemComes}

-- one more item comes
pub come_push : {S T E : Type 0} (next : S → Option (Result T E) → S → Type 0) (s : S) (items : List T) (t : S) (item : T) (u : S) → ItemsCome next s items t → next t (Some (Ok item)) u → ItemsCome next s (items ++ item ∷ []) u
come_push next s [] t item u come step = (u, subst (λ x. next x (Some (Ok item)) u) (sym come) step, refl)
come_push next s (i ∷ items) t item u come step = (come.0, come.1, come_push next come.0 items t item u come.2 step)

pub come_more : {S T E : Type 0} (next : S → Option (Result T E) → S → Type 0) (s : S) (before after : List T) (t u : S) → ItemsCome next s before t → ItemComes next t before after u → ItemsCome next s after u
come_more next s before after t u come more = subst (λ xs. ItemsCome next s xs u) (sym more.2) (come_push next s before t more.0 u come more.1)

pub more_items : {S T E : Type 0} (next : S → Option (Result T E) → S → Type 0) (before after : List T) (t u : S) (n : ℕ) → ItemComes next t before after u → length before ≡ n → length after ≡ n + 1
more_items next before after t u n more count = ap length more.2 ∙ length_push before more.0 ∙ ap (λ k. k + 1) count
