-- A context among the rows of a map by number: found, written, and one more.
use Rattle.std.proofs.Common.{◌≡◌, ℕ, Bool, true, false, cond, List, [], ◌∷◌, ◌++◌, Option, Some, None, Result, Ok, Err, refl, ap, sym, ◌∙◌, true≢false}
use Rattle.std.specs.Prelude.{nat_eq, is_some, unwrap_or, OnOk, OnErr}
use Rattle.std.specs.Map.{lookup, set_value}
use Rattle.std.specs.Option.{option_map}
use Rattle.indexmap.specs.IndexMap.{insert_entry}
use Rattle.wasi_host.specs.Contexts.{ByContext, with_named, is_named, at_context, put_context}
use Rattle.wasi_host.specs.declared.settings.Settings.{Settings}
use Rattle.wasi_host.specs.declared.random.Sources.{Sources}
use Rattle.wasi_host.specs.laws.Contexts.{put_same}
use Rattle.wasi_session.specs.declared.contexts.GuestContext.{GuestContext}
use Rattle.wasi_session.specs.Contexts.{Contexts, rows_by, by_part, settings_in, sources_in, contexts_of}
use Rattle.wasi_session.proofs.RowFacts.{there_same}

module _ {A V : Type 0} (part : A → V) where
  rows_found : (id : ℕ) (es : List (ℕ × A)) → lookup (nat_eq id) (rows_by part es) ≡ option_map part (lookup (nat_eq id) es)
  rows_found id [] = refl
  rows_found id (row ∷ es) = by (nat_eq id row.0) (rows_found id es)
    where
      by : (b : Bool) → lookup (nat_eq id) (rows_by part es) ≡ option_map part (lookup (nat_eq id) es) → cond b (Some (part row.1)) (lookup (nat_eq id) (rows_by part es)) ≡ option_map part (cond b (Some row.1) (lookup (nat_eq id) es))
      by true rest = refl
      by false rest = rest

  rows_set : (id : ℕ) (es : List (ℕ × A)) (it : A) → rows_by part (set_value (nat_eq id) es it) ≡ set_value (nat_eq id) (rows_by part es) (part it)
  rows_set id [] it = refl
  rows_set id (row ∷ es) it = by (nat_eq id row.0) (rows_set id es it)
    where
      by : (b : Bool) → rows_by part (set_value (nat_eq id) es it) ≡ set_value (nat_eq id) (rows_by part es) (part it) → rows_by part (cond b ((row.0, it) ∷ es) (row ∷ set_value (nat_eq id) es it)) ≡ cond b ((row.0, part it) ∷ rows_by part es) ((row.0, part row.1) ∷ set_value (nat_eq id) (rows_by part es) (part it))
      by true rest = refl
      by false rest = ap (λ es. (row.0, part row.1) ∷ es) rest

  rows_push : (id : ℕ) (es : List (ℕ × A)) (it : A) → lookup (nat_eq id) es ≡ None → rows_by part (insert_entry nat_eq es id it) ≡ rows_by part es ++ (id, part it) ∷ []
  rows_push id [] it new = refl
  rows_push id (row ∷ es) it new = by (λ new. rows_push id es it new) (nat_eq id row.0) new
    where
      by : (lookup (nat_eq id) es ≡ None → rows_by part (insert_entry nat_eq es id it) ≡ rows_by part es ++ (id, part it) ∷ []) → (b : Bool) → cond b (Some row.1) (lookup (nat_eq id) es) ≡ None → rows_by part (cond b ((row.0, it) ∷ es) (row ∷ insert_entry nat_eq es id it)) ≡ ((row.0, part row.1) ∷ rows_by part es) ++ (id, part it) ∷ []
      by rest true new = absurd (true≢false (ap is_some new))
      by rest false new = ap (λ es. (row.0, part row.1) ∷ es) (rest new)

  module _ (main : A) (es : List (ℕ × A)) (id : ℕ) where
    pub named_is : is_named id (by_part part main es) ≡ is_some (lookup (nat_eq id) es)
    named_is = ap is_some (rows_found id es) ∙ by (lookup (nat_eq id) es)
      where
        by : (o : Option A) → is_some (option_map part o) ≡ is_some o
        by None = refl
        by (Some x) = refl

    -- one that is there
    pub there_at : (it : A) → Some it ≡ lookup (nat_eq id) es → at_context (Some id) (by_part part main es) ≡ part it
    there_at it found = ap (λ (o : Option V). unwrap_or o (part main)) (rows_found id es ∙ ap (option_map part) (sym found))

    pub there_put : (es' : List (ℕ × A)) (it after : A) → Some it ≡ lookup (nat_eq id) es → es' ≡ set_value (nat_eq id) es after → by_part part main es' ≡ put_context (Some id) (part after) (by_part part main es)
    there_put es' it after found put =
        ap (by_part part main) put
        ∙ ap (λ (named : List (ℕ × V)). record { main = part main; named = named }) (rows_set id es after)
        ∙ sym (ap (λ b. cond b (record { main = part main; named = set_value (nat_eq id) (rows_by part es) (part after) }) (record { main = part after; named = rows_by part es })) (named_is ∙ ap is_some (sym found)))

    -- and one that is not: it is one more of the main one
    pub none_at : None ≡ lookup (nat_eq id) es → at_context (Some id) (by_part part main es) ≡ part main
    none_at absent = ap (λ (o : Option V). unwrap_or o (part main)) (rows_found id es ∙ ap (option_map part) (sym absent))

    pub none_put : (es' : List (ℕ × A)) (after : A) → None ≡ lookup (nat_eq id) es → es' ≡ es → by_part part after es' ≡ put_context (Some id) (part after) (by_part part main es)
    none_put es' after absent same =
        ap (by_part part after) same
        ∙ sym (ap (λ b. cond b (record { main = part main; named = set_value (nat_eq id) (rows_by part es) (part after) }) (record { main = part after; named = rows_by part es })) (named_is ∙ ap is_some (sym absent)))

    -- one more
    pub one_more : (es' : List (ℕ × A)) (it : A) → is_some (lookup (nat_eq id) es) ≡ false → es' ≡ insert_entry nat_eq es id it → by_part part main es' ≡ with_named id (part it) (by_part part main es)
    one_more es' it new after = ap (by_part part main) after ∙ ap (λ (named : List (ℕ × V)). record { main = part main; named = named }) (rows_push id es it (none (lookup (nat_eq id) es) new))
      where
        none : (o : Option A) → is_some o ≡ false → o ≡ None
        none None e = refl
        none (Some x) e = absurd (true≢false e)

-- ---- what is left of all contexts, where one of them is configured, or draws
module _ (main : GuestContext) (es es' : List (ℕ × GuestContext)) (id : ℕ) where
  abbrev settings_all : ByContext Settings
  settings_all = by_part settings_in main es

  abbrev sources_all : ByContext Sources
  sources_all = by_part sources_in main es

  pub set_there : {D E : Type 0} (result : Result D E) (it after : GuestContext) (one : Settings → Settings) (two : Sources → Sources) → Some it ≡ lookup (nat_eq id) es → es' ≡ set_value (nat_eq id) es after → OnOk result (after ≡ record { settings = one it.settings; sources = two it.sources }) → OnOk result (◌≡◌ {A = Contexts} (contexts_of main es') (record { settings = put_context (Some id) (one (at_context (Some id) settings_all)) settings_all; sources = put_context (Some id) (two (at_context (Some id) sources_all)) sources_all }))
  set_there (Err e) it after one two found put is = tt
  set_there (Ok d) it after one two found put is = λ i. record {
    settings = (there_put settings_in main es id es' it after found put ∙ ap (λ (x : Settings). put_context (Some id) x settings_all) (ap settings_in is ∙ ap one (sym (there_at settings_in main es id it found)))) i;
    sources = (there_put sources_in main es id es' it after found put ∙ ap (λ (x : Sources). put_context (Some id) x sources_all) (ap sources_in is ∙ ap two (sym (there_at sources_in main es id it found)))) i;
  }

  pub set_none : {D E : Type 0} (result : Result D E) (after : GuestContext) (one : Settings → Settings) (two : Sources → Sources) → None ≡ lookup (nat_eq id) es → es' ≡ es → OnOk result (after ≡ record { settings = one main.settings; sources = two main.sources }) → OnOk result (◌≡◌ {A = Contexts} (contexts_of after es') (record { settings = put_context (Some id) (one (at_context (Some id) settings_all)) settings_all; sources = put_context (Some id) (two (at_context (Some id) sources_all)) sources_all }))
  set_none (Err e) after one two absent same is = tt
  set_none (Ok d) after one two absent same is = λ i. record {
    settings = (none_put settings_in main es id es' after absent same ∙ ap (λ (x : Settings). put_context (Some id) x settings_all) (ap settings_in is ∙ ap one (sym (none_at settings_in main es id absent)))) i;
    sources = (none_put sources_in main es id es' after absent same ∙ ap (λ (x : Sources). put_context (Some id) x sources_all) (ap sources_in is ∙ ap two (sym (none_at sources_in main es id absent)))) i;
  }

  pub err_there : {D E : Type 0} (result : Result D E) (it after : GuestContext) → Some it ≡ lookup (nat_eq id) es → es' ≡ set_value (nat_eq id) es after → OnErr result (after ≡ it) → OnErr result (contexts_of main es' ≡ contexts_of main es)
  err_there (Ok d) it after found put same = tt
  err_there (Err e) it after found put same = ap (contexts_of main) (put ∙ ap (set_value (nat_eq id) es) same ∙ there_same (nat_eq id) es it (sym found))

  pub drew_there : {D E : Type 0} (result : Result D E) (it after : GuestContext) (left : Settings → Sources → Sources) → Some it ≡ lookup (nat_eq id) es → es' ≡ set_value (nat_eq id) es after → OnOk result (after ≡ record it { sources = left it.settings it.sources }) → OnOk result (◌≡◌ {A = Contexts} (contexts_of main es') (record { settings = settings_all; sources = put_context (Some id) (left (at_context (Some id) settings_all) (at_context (Some id) sources_all)) sources_all }))
  drew_there (Err e) it after left found put is = tt
  drew_there (Ok d) it after left found put is = λ i. record {
    settings = (there_put settings_in main es id es' it after found put ∙ ap (λ (x : Settings). put_context (Some id) x settings_all) (ap settings_in is ∙ sym (there_at settings_in main es id it found)) ∙ put_same (Some id) settings_all) i;
    sources = (there_put sources_in main es id es' it after found put ∙ ap (λ (x : Sources). put_context (Some id) x sources_all) (ap sources_in is ∙ (λ j. left (sym (there_at settings_in main es id it found) j) (sym (there_at sources_in main es id it found) j)))) i;
  }

  pub drew_none : {D E : Type 0} (result : Result D E) (after : GuestContext) (left : Settings → Sources → Sources) → None ≡ lookup (nat_eq id) es → es' ≡ es → OnOk result (after ≡ record main { sources = left main.settings main.sources }) → OnOk result (◌≡◌ {A = Contexts} (contexts_of after es') (record { settings = settings_all; sources = put_context (Some id) (left (at_context (Some id) settings_all) (at_context (Some id) sources_all)) sources_all }))
  drew_none (Err e) after left absent same is = tt
  drew_none (Ok d) after left absent same is = λ i. record {
    settings = (none_put settings_in main es id es' after absent same ∙ ap (λ (x : Settings). put_context (Some id) x settings_all) (ap settings_in is ∙ sym (none_at settings_in main es id absent)) ∙ put_same (Some id) settings_all) i;
    sources = (none_put sources_in main es id es' after absent same ∙ ap (λ (x : Sources). put_context (Some id) x sources_all) (ap sources_in is ∙ (λ j. left (sym (none_at settings_in main es id absent) j) (sym (none_at sources_in main es id absent) j)))) i;
  }
