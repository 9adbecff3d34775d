-- The plans of sources and sinks.
use Rattle.std.specs.Prelude.{ℕ, Bool, cond, nat_le, nat_eq, List, [], ◌∷◌, length, Option, Some, None, codes}
use Rattle.std.specs.List.{slice_split}
use Rattle.std.specs.Option.{option_and_then, option_map}
use Rattle.std.specs.Str.{bytes_eq}
use Rattle.wasi_base.specs.declared.source.Plan.{Plan}
use Rattle.wasi_base.specs.declared.source.Plan.TheVariants.{Take, Fail}
use Rattle.wasi_base.specs.declared.sink.SinkPlan.{SinkPlan}
use Rattle.wasi_base.specs.declared.sink.SinkPlan.TheVariants as sink
use Rattle.wasi_base.specs.IoKind.{kind_named}
use Rattle.wasi_script.specs.Fields.{number_of}

-- `tNUM` takes so many bytes at most, `fKIND` fails
abbrev pub take_or_fail : List ℕ → Option Plan
take_or_fail [] = None
take_or_fail (letter ∷ rest) = cond (nat_eq letter 116) (option_map Take (number_of rest)) (cond (nat_eq letter 102) (option_map Fail (kind_named rest)) None)

-- the same of a write, and `lKIND` fails a flush
abbrev pub take_or_fail_or_flush_fail : List ℕ → Option SinkPlan
take_or_fail_or_flush_fail [] = None
take_or_fail_or_flush_fail (letter ∷ rest) =
    cond (nat_eq letter 116) (option_map sink.Take (number_of rest))
    (cond (nat_eq letter 102) (option_map sink.Fail (kind_named rest)) (cond (nat_eq letter 108) (option_map sink.FlushFail (kind_named rest)) None))

-- what each of some texts stands for, if each stands for something
abbrev pub each_of : {A : Type 0} → (List ℕ → Option A) → List (List ℕ) → Option (List A)
each_of meaning [] = Some []
each_of meaning (text ∷ texts) = option_and_then (λ item. option_map (λ items. item ∷ items) (each_of meaning texts)) (meaning text)

-- a plan has at most 1024 items
abbrev pub is_short : {A : Type 0} → List A → Bool
is_short items = nat_le (length items) 1024

abbrev pub plan_with : {A : Type 0} → List A → Option (List A)
plan_with items = cond (is_short items) (Some items) None

-- the items of texts
abbrev pub items_of : {A : Type 0} → (List ℕ → Option A) → List (List ℕ) → Option (List A)
items_of meaning texts = cond (is_short texts) (each_of meaning texts) None

-- `-` for no items, or items between commas
abbrev pub plan_of : {A : Type 0} → (List ℕ → Option A) → List ℕ → Option (List A)
plan_of meaning text = cond (bytes_eq text (codes "-")) (Some []) (items_of meaning (slice_split (λ byte. nat_eq byte 44) text))

abbrev pub read_plan_of : List ℕ → Option (List Plan)
read_plan_of = plan_of take_or_fail

abbrev pub write_plan_of : List ℕ → Option (List SinkPlan)
write_plan_of = plan_of take_or_fail_or_flush_fail
