-- The laws of turns.
use Rattle.std.proofs.Common.{◌≡◌, Bool, true, false, not, cond, ◌||◌, List, [], ◌∷◌, ◌++◌, Option, Some, None, refl, sym, ap, subst, ◌∙◌}
use Rattle.std.proofs.lemmas.List.{append_assoc}
use Rattle.std.proofs.lemmas.List.Elements.{filter-append}
use Rattle.wasi_cli.specs.declared.owner.Owner.{Owner}
use Rattle.wasi_cli.specs.Turns.{IsTurn, same, is_waiting, without, joined, passed, after_ask_by, after_free_by}
use Rattle.wasi_cli.specs.Promises.{IsApart, FreedAreGone, IsBehind, MovesUp, TurnsPassInOrder}
use Rattle.wasi_cli.proofs.TurnFacts.{laws, neither, both_not}

-- two that are the same wait alike
alike : (a b : Owner) → same a b ≡ true → (waiting : List Owner) → is_waiting a waiting ≡ is_waiting b waiting
alike a b e [] = refl
alike a b e (x ∷ waiting) =
    let here = laws.symm x a ∙ laws.congr a b x e ∙ laws.symm b x in
    ap (λ v. v || is_waiting a waiting) here ∙ ap (λ v. same x b || v) (alike a b e waiting)

gone_by : (who x : Owner) (waiting : List Owner) → is_waiting who (without who waiting) ≡ false → (b : Bool) → same x who ≡ b → is_waiting who (cond (not b) (x ∷ without who waiting) (without who waiting)) ≡ false
gone_by who x waiting rest true e = rest
gone_by who x waiting rest false e = both_not _ _ e rest

gone : (who : Owner) (waiting : List Owner) → is_waiting who (without who waiting) ≡ false
gone who [] = refl
gone who (x ∷ waiting) = gone_by who x waiting (gone who waiting) (same x who) refl

-- the holder's turn went on
held : (who holder : Owner) (waiting : List Owner) → same holder who ≡ true → is_waiting holder waiting ≡ false → IsApart who (passed waiting)
held who holder [] e apart = record { holds_not = tt; waits_not = refl }
held who holder (next ∷ waiting) e apart =
    let none = neither (same next who) (is_waiting who waiting) (sym (alike holder who e (next ∷ waiting)) ∙ apart) in
    record { holds_not = none.0; waits_not = none.1 }

freed_by : (who holder : Owner) (waiting : List Owner) → is_waiting holder waiting ≡ false → (b : Bool) → same holder who ≡ b → IsApart who (cond b (passed waiting) (record { holder = Some holder; waiting = without who waiting }))
freed_by who holder waiting apart true e = held who holder waiting e apart
freed_by who holder waiting apart false e = record { holds_not = e; waits_not = gone who waiting }

freed : (holder : Option Owner) (waiting : List Owner) (who : Owner) → IsTurn (record { holder = holder; waiting = waiting }) → IsApart who (after_free_by holder waiting who)
freed None waiting who turn = record { holds_not = tt; waits_not = ap (is_waiting who) turn.held }
freed (Some holder) waiting who turn = freed_by who holder waiting turn.apart (same holder who) refl

pub freed_are_gone : FreedAreGone
freed_are_gone turn who sound = freed turn.holder turn.waiting who sound

-- who asks comes behind
behind_more : (before : List Owner) (who other : Owner) (waiting after : List Owner) → waiting ≡ before ++ who ∷ after → waiting ++ other ∷ [] ≡ before ++ who ∷ (after ++ other ∷ [])
behind_more before who other waiting after line = ap (λ w. w ++ other ∷ []) line ∙ append_assoc before (who ∷ after) (other ∷ [])

joins_behind : (before : List Owner) (who other : Owner) (holder : Option Owner) (waiting after : List Owner) → waiting ≡ before ++ who ∷ after → (b : Bool) → IsBehind before who (record { holder = holder; waiting = cond b waiting (waiting ++ other ∷ []) })
joins_behind before who other holder waiting after line true = record { after = after; line = line }
joins_behind before who other holder waiting after line false = record { after = after ++ other ∷ []; line = behind_more before who other waiting after line }

asks_behind : (before : List Owner) (who other holder : Owner) (waiting after : List Owner) → waiting ≡ before ++ who ∷ after → (b : Bool) → IsBehind before who (record { holder = Some holder; waiting = cond b waiting (joined waiting other) })
asks_behind before who other holder waiting after line true = record { after = after; line = line }
asks_behind before who other holder waiting after line false = joins_behind before who other (Some holder) waiting after line (is_waiting other waiting)

asked_by : (before : List Owner) (who other : Owner) (holder : Option Owner) (waiting after : List Owner) → waiting ≡ before ++ who ∷ after → IsBehind before who (after_ask_by holder waiting other)
asked_by before who other None waiting after line = record { after = after; line = line }
asked_by before who other (Some holder) waiting after line = asks_behind before who other holder waiting after line (same holder other)

moves_up : (before : List Owner) (who : Owner) (after : List Owner) → MovesUp before who (passed (before ++ who ∷ after))
moves_up [] who after = refl
moves_up (next ∷ before) who after = (refl, record { after = after; line = refl })

hands_on : (holder : Owner) (waiting : List Owner) → after_free_by (Some holder) waiting holder ≡ passed waiting
hands_on holder waiting = ap (λ b. cond b (passed waiting) (record { holder = Some holder; waiting = without holder waiting })) (laws.refl holder)

leaves_others : (before : List Owner) (who other : Owner) (after : List Owner) → same who other ≡ false → without other (before ++ who ∷ after) ≡ without other before ++ who ∷ without other after
leaves_others before who other after apart =
    filter-append (λ x. not (same x other)) before (who ∷ after)
    ∙ ap (λ b. without other before ++ cond (not b) (who ∷ without other after) (without other after)) apart

left_behind : (holder who other : Owner) (before waiting after : List Owner) → same holder other ≡ false → same who other ≡ false → waiting ≡ before ++ who ∷ after → IsBehind (without other before) who (after_free_by (Some holder) waiting other)
left_behind holder who other before waiting after apart other_too line =
    subst (λ b. IsBehind (without other before) who (cond b (passed waiting) (record { holder = Some holder; waiting = without other waiting }))) (sym apart)
    (record { after = without other after; line = ap (without other) line ∙ leaves_others before who other after other_too })

pub turns_pass_in_order : TurnsPassInOrder
turns_pass_in_order = record {
  asked = λ turn before who other behind. asked_by before who other turn.holder turn.waiting behind.after behind.line;
  passed = λ turn before who holder is behind. subst (MovesUp before who) (sym (ap (λ h. after_free_by h turn.waiting holder) is ∙ hands_on holder turn.waiting ∙ ap passed behind.line)) (moves_up before who behind.after);
  left = λ turn before who holder other is apart other_too behind. subst (λ h. IsBehind (without other before) who (after_free_by h turn.waiting other)) (sym is) (left_behind holder who other before turn.waiting behind.after apart other_too behind.line);
}
