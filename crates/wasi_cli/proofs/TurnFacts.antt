-- A turn record stays one through each change.
use Rattle.std.proofs.Common.{◌≡◌, ℕ, ◌<◌, arith, length, drop, take, get_or, set, Bool, true, false, cond, ◌||◌, List, [], ◌∷◌, ◌++◌, Option, Some, None, MatchOption, refl, sym, ap, subst, ◌∙◌, rules}
use Rattle.std.specs.List.{filter}
use Rattle.std.specs.Prelude.{option_to_list, ◌==◌, not}
use Rattle.std.proofs.lemmas.Bool.{eq-eqb, ne_eqb}
use Rattle.std.specs.Cmp.{IsEquivalence}
use Rattle.std.specs.Option.{option_eq}
use Rattle.std.proofs.lemmas.List.Folds.{list_any-append}
use Rattle.wasi_cli.specs.declared.owner.Owner.{Owner}
use Rattle.wasi_cli.specs.Turns.{IsTurn, NoRepeats, same, is_waiting, without, without_guest, gets_turn, joined, passed, after_free_by, after_end_by}

pub laws : IsEquivalence same
laws = record {
  refl = λ x. search rules;
  symm = λ x y. search rules;
  congr = λ x y z e. search rules;
}

pub neither : (a b : Bool) → (a || b) ≡ false → (a ≡ false) × (b ≡ false)
neither false b e = (refl, e)
neither true b e = absurd (search (e, rules))

pub both_not : (a b : Bool) → a ≡ false → b ≡ false → (a || b) ≡ false
both_not a b ea eb = ap (λ v. v || b) ea ∙ eb

-- one more at the end
absent_from : (x who : Owner) (waiting : List Owner) → is_waiting x waiting ≡ false → same who x ≡ false → is_waiting x (waiting ++ who ∷ []) ≡ false
absent_from x who waiting absent other = list_any-append (λ y. same y x) waiting (who ∷ []) ∙ both_not _ _ absent (both_not _ _ other refl)

stays_once : (waiting : List Owner) (who : Owner) → NoRepeats waiting → is_waiting who waiting ≡ false → NoRepeats (waiting ++ who ∷ [])
stays_once [] who once absent = (refl, tt)
stays_once (x ∷ waiting) who once absent =
    let apart = neither (same x who) (is_waiting who waiting) absent in
    (absent_from x who waiting once.0 (laws.symm who x ∙ apart.0), stays_once waiting who once.1 apart.1)

-- some of them gone
still_absent : (keeps : Owner → Bool) (who : Owner) (waiting : List Owner) → is_waiting who waiting ≡ false → is_waiting who (filter keeps waiting) ≡ false
still_absent keeps who [] absent = refl
still_absent keeps who (x ∷ waiting) absent =
    let apart = neither (same x who) (is_waiting who waiting) absent in
    let rest = still_absent keeps who waiting apart.1 in
    elim (keeps x) as (λ b. is_waiting who (cond b (x ∷ filter keeps waiting) (filter keeps waiting)) ≡ false) [ true ↦ both_not _ _ apart.0 rest | false ↦ rest ]

still_once : (keeps : Owner → Bool) (waiting : List Owner) → NoRepeats waiting → NoRepeats (filter keeps waiting)
still_once keeps [] once = tt
still_once keeps (x ∷ waiting) once =
    let rest = still_once keeps waiting once.1 in
    elim (keeps x) as (λ b. NoRepeats (cond b (x ∷ filter keeps waiting) (filter keeps waiting))) [ true ↦ (still_absent keeps x waiting once.0, rest) | false ↦ rest ]

pub no_turn : (waiting : List Owner) → waiting ≡ [] → IsTurn (record { holder = None; waiting = waiting })
no_turn waiting none = record { once = subst NoRepeats (sym none) tt; apart = tt; held = none }

pub first_holds : (who : Owner) (waiting : List Owner) → waiting ≡ [] → IsTurn (record { holder = Some who; waiting = waiting })
first_holds who waiting none = record { once = subst NoRepeats (sym none) tt; apart = subst (λ w. is_waiting who w ≡ false) (sym none) refl; held = tt }

pub queued : (holder who : Owner) (waiting : List Owner) → same holder who ≡ false → is_waiting who waiting ≡ false → IsTurn (record { holder = Some holder; waiting = waiting }) → IsTurn (record { holder = Some holder; waiting = waiting ++ who ∷ [] })
queued holder who waiting other absent turn = record {
  once = stays_once waiting who turn.once absent;
  apart = absent_from holder who waiting turn.apart (laws.symm who holder ∙ other);
  held = tt;
}

never : {A : Type 0} → true ≡ false → A
never e = absurd (search (e, rules))

joins : (holder who : Owner) (waiting : List Owner) → same holder who ≡ false → IsTurn (record { holder = Some holder; waiting = waiting }) → (b : Bool) → is_waiting who waiting ≡ b → IsTurn (record { holder = Some holder; waiting = cond b waiting (waiting ++ who ∷ []) })
joins holder who waiting other turn true there = turn
joins holder who waiting other turn false absent = queued holder who waiting other absent turn

-- who doesn't get the turn waits
pub queues : (holder : Option Owner) (waiting : List Owner) (who : Owner) → gets_turn holder who ≡ false → IsTurn (record { holder = holder; waiting = waiting }) → IsTurn (record { holder = holder; waiting = joined waiting who })
queues None waiting who other turn = never other
queues (Some holder) waiting who other turn = joins holder who waiting other turn (is_waiting who waiting) refl

pub passes : (holder next : Option Owner) (waiting rest : List Owner) → MatchOption next ((waiting ≡ []) × (rest ≡ [])) (λ first. waiting ≡ first ∷ rest) → IsTurn (record { holder = holder; waiting = waiting }) → IsTurn (record { holder = next; waiting = rest })
passes holder None waiting rest by turn = no_turn rest by.1
passes holder (Some first) waiting rest by turn =
    let once = subst NoRepeats by turn.once in
    record { once = once.1; apart = once.0; held = tt }

pub leaves : (holder : Option Owner) (waiting : List Owner) (keeps : Owner → Bool) → IsTurn (record { holder = holder; waiting = waiting }) → IsTurn (record { holder = holder; waiting = filter keeps waiting })
leaves None waiting keeps turn = no_turn (filter keeps waiting) (ap (filter keeps) turn.held)
leaves (Some holder) waiting keeps turn = record { once = still_once keeps waiting turn.once; apart = still_absent keeps holder waiting turn.apart; held = tt }

-- where who doesn't hold the turn, what it leaves
pub left_by : (holder : Option Owner) (waiting : List Owner) (who : Owner) → option_eq same holder (Some who) ≡ false → IsTurn (record { holder = holder; waiting = waiting }) → record { holder = holder; waiting = without who waiting } ≡ after_free_by holder waiting who
left_by None waiting who other turn = ap (λ w. record { holder = None; waiting = w }) (ap (without who) turn.held ∙ sym turn.held)
left_by (Some holder) waiting who other turn = sym (ap (λ b. cond b (passed waiting) (record { holder = Some holder; waiting = without who waiting })) other)

-- what is taken from the front
no_rest : (xs : List Owner) → xs ≡ drop 1 xs → xs ≡ []
no_rest [] e = refl
no_rest (x ∷ xs) e = let lengths : length (x ∷ xs) ≡ length xs = ap length e in absurd (omega (arith, lengths))

pub popped : (next : Option Owner) (waiting rest : List Owner) → waiting ≡ option_to_list next ++ rest → rest ≡ drop 1 waiting → MatchOption next ((waiting ≡ []) × (rest ≡ [])) (λ first. waiting ≡ first ∷ rest)
popped None waiting rest all dropped = let none = no_rest waiting (all ∙ dropped) in (none, sym all ∙ none)
popped (Some first) waiting rest all dropped = all

pub passed_is : (next : Option Owner) (waiting rest : List Owner) → MatchOption next ((waiting ≡ []) × (rest ≡ [])) (λ first. waiting ≡ first ∷ rest) → record { holder = next; waiting = rest } ≡ passed waiting
passed_is None waiting rest by = ap (λ rest. record { holder = None; waiting = rest }) by.1 ∙ sym (ap passed by.0)
passed_is (Some first) waiting rest by = sym (ap passed by)

-- a guest ends
pub ends_held : (holder : Owner) (waiting : List Owner) (guest : ℕ) → holder.guest ≡ guest → passed (without_guest guest waiting) ≡ after_end_by (Some holder) waiting guest
ends_held holder waiting guest is = sym (ap (λ b. cond b (passed (without_guest guest waiting)) (record { holder = Some holder; waiting = without_guest guest waiting })) (eq-eqb holder.guest guest is))

pub ends_apart : (holder : Owner) (waiting : List Owner) (guest : ℕ) → (holder.guest ≡ guest → ⊥) → record { holder = Some holder; waiting = without_guest guest waiting } ≡ after_end_by (Some holder) waiting guest
ends_apart holder waiting guest other = sym (ap (λ b. cond b (passed (without_guest guest waiting)) (record { holder = Some holder; waiting = without_guest guest waiting })) (ne_eqb holder.guest guest other))

-- the holder gives the turn on and waits again
pub gives_way : (who next : Owner) (waiting rest : List Owner) → waiting ≡ next ∷ rest → IsTurn (record { holder = Some who; waiting = waiting }) → IsTurn (record { holder = Some next; waiting = rest ++ who ∷ [] })
gives_way who next waiting rest is turn =
    let apart : is_waiting who (next ∷ rest) ≡ false = subst (λ w. is_waiting who w ≡ false) is turn.apart in
    let both = neither (same next who) (is_waiting who rest) apart in
    queued next who rest both.0 both.1 (passes (Some who) (Some next) waiting rest is turn)

pub rotated : (who next : Owner) (waiting now : List Owner) → 0 < length waiting → next ≡ get_or waiting 0 next → now ≡ drop 1 (set waiting 0 who) ++ take 1 (set waiting 0 who) → IsTurn (record { holder = Some who; waiting = waiting }) → IsTurn (record { holder = Some next; waiting = now })
rotated who next [] now some is turns turn = absurd (omega (arith, some))
rotated who next (x ∷ rest) now some is turns turn = subst (λ (next : Owner). IsTurn (record { holder = Some next; waiting = now })) (sym is) (subst (λ w. IsTurn (record { holder = Some x; waiting = w })) (sym turns) (gives_way who x (x ∷ rest) rest refl turn))

pub leaves_guest : (holder : Option Owner) (waiting rest : List Owner) (guest : ℕ) → rest ≡ without_guest guest waiting → IsTurn (record { holder = holder; waiting = waiting }) → IsTurn (record { holder = holder; waiting = rest })
leaves_guest holder waiting rest guest is turn = subst (λ w. IsTurn (record { holder = holder; waiting = w })) (sym is) (leaves holder waiting (λ other. not (other.guest == guest)) turn)
