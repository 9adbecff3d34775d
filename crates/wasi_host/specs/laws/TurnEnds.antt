-- What is left of a turn where a guest ends.
use Rattle.std.proofs.Common.{◌≡◌, ℕ, Bool, true, false, cond, ◌||◌, List, [], ◌∷◌, Option, Some, None, refl, ap, sym, subst, ◌∙◌, true≢false}
use Rattle.std.specs.Prelude.{◌==◌, ◌&&◌, not}
use Rattle.std.specs.List.{filter, list_any, AllByRecursion}
use Rattle.std.proofs.lemmas.Bool.{eq-eqb, eqb-true}
use Rattle.wasi_cli.specs.declared.owner.Owner.{Owner}
use Rattle.wasi_cli.specs.Turns.{Turn, IsTurn, NoRepeats, same, is_waiting, without, passed, after_free_by, after_free, without_guest, after_end_by, after_end}
use Rattle.wasi_host.specs.Traps.{each_freed, IsAmong, AreAmong}

abbrev at : Option Owner → List Owner → Turn
at holder waiting = record { holder = holder; waiting = waiting }

-- ---- those that wait, without a guest's
module _ (g : ℕ) where
  -- who goes first is missed by nobody
  without_one : (n : ℕ) (waiting : List Owner) → without_guest g (without (record { guest = g; number = n }) waiting) ≡ without_guest g waiting
  without_one n [] = refl
  without_one n (x ∷ waiting) = by (x.guest == g) (x.number == n) refl (without_one n waiting)
    where
      rest : List Owner
      rest = without (record { guest = g; number = n }) waiting

      by : (a b : Bool) → (x.guest == g) ≡ a → without_guest g rest ≡ without_guest g waiting → without_guest g (cond (not (a && b)) (x ∷ rest) rest) ≡ cond (not a) (x ∷ without_guest g waiting) (without_guest g waiting)
      by true true e same = same
      by true false e same = ap (λ b. cond (not b) (x ∷ without_guest g rest) (without_guest g rest)) e ∙ same
      by false b e same = ap (λ b. cond (not b) (x ∷ without_guest g rest) (without_guest g rest)) e ∙ ap (λ rest. x ∷ rest) same

  without_twice : (waiting : List Owner) → without_guest g (without_guest g waiting) ≡ without_guest g waiting
  without_twice [] = refl
  without_twice (x ∷ waiting) = by (x.guest == g) refl (without_twice waiting)
    where
      rest : List Owner
      rest = without_guest g waiting

      by : (a : Bool) → (x.guest == g) ≡ a → without_guest g rest ≡ rest → without_guest g (cond (not a) (x ∷ rest) rest) ≡ cond (not a) (x ∷ rest) rest
      by true e same = same
      by false e same = ap (λ b. cond (not b) (x ∷ without_guest g rest) (without_guest g rest)) e ∙ ap (λ rest. x ∷ rest) same

  passed_end : (waiting : List Owner) → after_end (passed waiting) g ≡ passed (without_guest g waiting)
  passed_end [] = refl
  passed_end (x ∷ waiting) = by (x.guest == g)
    where
      rest : List Owner
      rest = without_guest g waiting

      by : (a : Bool) → cond a (passed rest) (at (Some x) rest) ≡ passed (cond (not a) (x ∷ rest) rest)
      by true = refl
      by false = refl

  -- ---- the turn
  held_end : (n : ℕ) (holder : Owner) (waiting : List Owner) (a b : Bool) → (holder.guest == g) ≡ a → after_end (cond (a && b) (passed waiting) (at (Some holder) (without (record { guest = g; number = n }) waiting))) g ≡ after_end (at (Some holder) waiting) g
  held_end n holder waiting true true e = passed_end waiting ∙ sym (ap (λ a. cond a (passed (without_guest g waiting)) (at (Some holder) (without_guest g waiting))) e)
  held_end n holder waiting true false e = ap (λ rest. after_end_by_guest holder rest) (without_one n waiting)
    where
      after_end_by_guest : Owner → List Owner → Turn
      after_end_by_guest holder rest = cond (holder.guest == g) (passed rest) (at (Some holder) rest)
  held_end n holder waiting false b e = ap (λ rest. after_end_by_guest holder rest) (without_one n waiting)
    where
      after_end_by_guest : Owner → List Owner → Turn
      after_end_by_guest holder rest = cond (holder.guest == g) (passed rest) (at (Some holder) rest)

  free_end_by : (n : ℕ) (holder : Option Owner) (waiting : List Owner) → after_end (after_free_by holder waiting (record { guest = g; number = n })) g ≡ after_end_by holder waiting g
  free_end_by n None waiting = refl
  free_end_by n (Some holder) waiting = held_end n holder waiting (holder.guest == g) (holder.number == n) refl

  -- an entry that went before its guest ended leaves the same
  pub free_end : (n : ℕ) (turn : Turn) → after_end (after_free turn (record { guest = g; number = n })) g ≡ after_end turn g
  free_end n turn = free_end_by n turn.holder turn.waiting

  end_end_by : (holder : Option Owner) (waiting : List Owner) → after_end (after_end_by holder waiting g) g ≡ after_end_by holder waiting g
  end_end_by None waiting = ap (λ rest. at None rest) (without_twice waiting)
  end_end_by (Some holder) waiting = by (holder.guest == g) refl
    where
      rest : List Owner
      rest = without_guest g waiting

      by : (a : Bool) → (holder.guest == g) ≡ a → after_end (cond a (passed rest) (at (Some holder) rest)) g ≡ cond a (passed rest) (at (Some holder) rest)
      by true e = passed_end rest ∙ ap passed (without_twice waiting)
      by false e = ap (λ a. cond a (passed (without_guest g rest)) (at (Some holder) (without_guest g rest))) e ∙ ap (λ rest. at (Some holder) rest) (without_twice waiting)

  -- a guest ends once
  pub end_end : (turn : Turn) → after_end (after_end turn g) g ≡ after_end turn g
  end_end turn = end_end_by turn.holder turn.waiting

-- ---- a turn stays one where an owner goes
neither : (a b : Bool) → (a || b) ≡ false → (a ≡ false) × (b ≡ false)
neither true b e = absurd (true≢false e)
neither false b e = (refl, e)

still_absent : (keeps : Owner → Bool) (who : Owner) (waiting : List Owner) → is_waiting who waiting ≡ false → is_waiting who (filter keeps waiting) ≡ false
still_absent keeps who [] absent = refl
still_absent keeps who (x ∷ waiting) absent = by (keeps x) (still_absent keeps who waiting (neither (same x who) (is_waiting who waiting) absent).1)
  where
    by : (b : Bool) → is_waiting who (filter keeps waiting) ≡ false → is_waiting who (cond b (x ∷ filter keeps waiting) (filter keeps waiting)) ≡ false
    by true rest = ap (λ b. b || is_waiting who (filter keeps waiting)) (neither (same x who) (is_waiting who waiting) absent).0 ∙ rest
    by false rest = rest

still_once : (keeps : Owner → Bool) (waiting : List Owner) → NoRepeats waiting → NoRepeats (filter keeps waiting)
still_once keeps [] once = tt
still_once keeps (x ∷ waiting) once = by (keeps x) (still_once keeps waiting once.1)
  where
    by : (b : Bool) → NoRepeats (filter keeps waiting) → NoRepeats (cond b (x ∷ filter keeps waiting) (filter keeps waiting))
    by true rest = (still_absent keeps x waiting once.0, rest)
    by false rest = rest

passed_is_turn : (waiting : List Owner) → NoRepeats waiting → IsTurn (passed waiting)
passed_is_turn [] once = record { once = tt; apart = tt; held = refl }
passed_is_turn (x ∷ waiting) once = record { once = once.1; apart = once.0; held = tt }

free_is_turn : (who : Owner) (holder : Option Owner) (waiting : List Owner) → IsTurn (at holder waiting) → IsTurn (after_free_by holder waiting who)
free_is_turn who None waiting is = is
free_is_turn who (Some holder) waiting is = by (same holder who)
  where
    by : (b : Bool) → IsTurn (cond b (passed waiting) (at (Some holder) (without who waiting)))
    by true = passed_is_turn waiting is.once
    by false = record { once = still_once (λ other. not (same other who)) waiting is.once; apart = still_absent (λ other. not (same other who)) holder waiting is.apart; held = tt }

-- ---- who went is among those that are left no more
same_is : (a b : Owner) → same a b ≡ true → a ≡ b
same_is a b e = by (a.guest == b.guest) (a.number == b.number) refl refl e
  where
    by : (x y : Bool) → (a.guest == b.guest) ≡ x → (a.number == b.number) ≡ y → (x && y) ≡ true → a ≡ b
    by true true g n e = ap (λ guest. record { guest = guest; number = a.number }) (eqb-true a.guest b.guest g) ∙ ap (λ number. record { guest = b.guest; number = number }) (eqb-true a.number b.number n)
    by true false g n e = absurd (true≢false (sym e))
    by false y g n e = absurd (true≢false (sym e))

module _ (g n : ℕ) (numbers : List ℕ) where
  abbrev who : Owner
  who = record { guest = g; number = n }

  one_less : (x : Owner) → same x who ≡ false → IsAmong g (n ∷ numbers) x → IsAmong g numbers x
  one_less x apart among is = by (x.guest == g) (eq-eqb x.guest g is) apart
    where
      by : (a : Bool) → a ≡ true → (a && (x.number == n)) ≡ false → list_any (λ number. x.number == number) numbers ≡ true
      by true e other = sym (ap (λ b. b || list_any (λ number. x.number == number) numbers) other) ∙ among is
      by false e other = absurd (true≢false (sym e))

  all_less : (waiting : List Owner) → is_waiting who waiting ≡ false → AllByRecursion (IsAmong g (n ∷ numbers)) waiting → AllByRecursion (IsAmong g numbers) waiting
  all_less [] absent all = tt
  all_less (x ∷ waiting) absent all = let apart = neither (same x who) (is_waiting who waiting) absent in (one_less x apart.0 all.0, all_less waiting apart.1 all.1)

  rest_less : (waiting : List Owner) → AllByRecursion (IsAmong g (n ∷ numbers)) waiting → AllByRecursion (IsAmong g numbers) (without who waiting)
  rest_less [] all = tt
  rest_less (x ∷ waiting) all = by (same x who) refl (rest_less waiting all.1)
    where
      by : (b : Bool) → same x who ≡ b → AllByRecursion (IsAmong g numbers) (without who waiting) → AllByRecursion (IsAmong g numbers) (cond (not b) (x ∷ without who waiting) (without who waiting))
      by true e rest = rest
      by false e rest = (one_less x e all.0, rest)

  passed_less : (waiting : List Owner) → AllByRecursion (IsAmong g numbers) waiting → AreAmong g numbers (passed waiting)
  passed_less [] all = record { holder = tt; waiting = tt }
  passed_less (x ∷ waiting) all = record { holder = all.0; waiting = all.1 }

  free_less : (holder : Option Owner) (waiting : List Owner) → IsTurn (at holder waiting) → AreAmong g (n ∷ numbers) (at holder waiting) → AreAmong g numbers (after_free_by holder waiting who)
  free_less None waiting is among = record { holder = tt; waiting = subst (AllByRecursion (IsAmong g numbers)) (sym is.held) tt }
  free_less (Some holder) waiting is among = by (same holder who) refl
    where
      by : (b : Bool) → same holder who ≡ b → AreAmong g numbers (cond b (passed waiting) (at (Some holder) (without who waiting)))
      by true e = passed_less waiting (all_less waiting (subst (λ one. is_waiting one waiting ≡ false) (same_is holder who e) is.apart) among.waiting)
      by false e = record { holder = one_less holder e among.holder; waiting = rest_less waiting among.waiting }

-- ---- nobody of the guest is left
none_is : (g : ℕ) (who : Owner) → IsAmong g [] who → (who.guest == g) ≡ false
none_is g who among = by (who.guest == g) refl
  where
    by : (b : Bool) → (who.guest == g) ≡ b → b ≡ false
    by true e = absurd (true≢false (sym (among (eqb-true who.guest g e))))
    by false e = refl

none_waits : (g : ℕ) (waiting : List Owner) → AllByRecursion (IsAmong g []) waiting → without_guest g waiting ≡ waiting
none_waits g [] all = refl
none_waits g (x ∷ waiting) all = ap (λ b. cond (not b) (x ∷ without_guest g waiting) (without_guest g waiting)) (none_is g x all.0) ∙ ap (λ rest. x ∷ rest) (none_waits g waiting all.1)

none_end : (g : ℕ) (holder : Option Owner) (waiting : List Owner) → AreAmong g [] (at holder waiting) → after_end_by holder waiting g ≡ at holder waiting
none_end g None waiting among = ap (λ rest. at None rest) (none_waits g waiting among.waiting)
none_end g (Some holder) waiting among = ap (λ b. cond b (passed (without_guest g waiting)) (at (Some holder) (without_guest g waiting))) (none_is g holder among.holder) ∙ ap (λ rest. at (Some holder) rest) (none_waits g waiting among.waiting)

pub ends_free_each : (turn : Turn) (g : ℕ) (numbers : List ℕ) → IsTurn turn → AreAmong g numbers turn → each_freed g numbers turn ≡ after_end turn g
ends_free_each turn g [] is among = sym (none_end g turn.holder turn.waiting among)
ends_free_each turn g (n ∷ numbers) is among =
    let who : Owner = record { guest = g; number = n } in
    ends_free_each (after_free turn who) g numbers (free_is_turn who turn.holder turn.waiting is) (free_less g n numbers turn.holder turn.waiting is among) ∙ free_end g n turn
