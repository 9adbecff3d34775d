use Rattle.std.proofs.Common.{◌≡◌, arith, true, false, nat_eq, ◌∙◌, sym, take, refl, get_or, Some, ◌∷◌, []}
use Rattle.std.specs.Prelude.{slice_get}
use Rattle.std.proofs.lemmas.Bool.Decides.{nat_tests}
use Rattle.wasi_threads.specs.Passes.{part_of}
use Rattle.wasi_threads.proofs.PartFacts.{part_step, walk_same, walk_over, walk_none, part_mine, part_other, part_goes, walk_differs, walk_ends, take_all, place_get}
use Rattle.wasi_threads.proofs.collect.compare.Goals as goal
use Rattle.wasi_threads.proofs.collect.compare.Goals.{then-entry-number+then-at-entries+else-not-same_entry, then-entry-number+else-at-entries, else-entry-number}

pub returns-then-not-same_entry-clause-is : goal.returns-then-not-same_entry-clause-is
returns-then-not-same_entry-clause-is c = λ kept here.
    let mine : nat_eq c.index-history-place.result.pass c.args.number ≡ true = let e = c.if-entry-number.true in grind (arith, nat_tests) in
    let goes = part_goes c.args.number c.loop-place.place c.args.history.now c.index-history-place.result (omega arith) (sym c.index-history-place.is) mine in
    let found : slice_get c.args.history.now c.loop-place.place ≡ Some c.index-history-place.result = place_get c.args.history.now c.loop-place.place c.index-history-place.result (omega arith) (sym c.index-history-place.is) in
    let there : slice_get c.args.entries.now c.loop-place.at ≡ Some c.index-entries-at.result = place_get c.args.entries.now c.loop-place.at c.index-entries-at.result (omega arith) (sym c.index-entries-at.is) in
    let same : kept ≡ c.index-entries-at.result = (cc) in
    rw (goes, found) (walk_differs _ _ _ _ _ kept c.loop-place.invariant.same c.loop-place.invariant.at (omega arith) (λ e. absurd (let t = c.if-not-same_entry.ensures.1 (e ∙ same) in cc)) here)

pub loop-place-preserved : goal.loop-place-preserved
loop-place-preserved c =
    let step = part_step c.args.number c.loop-place.place c.args.history.now c.index-history-place.result (omega arith) (sym c.index-history-place.is) in
    elim c.if-entry-number.branch [
      | then-entry-number+then-at-entries+else-not-same_entry w ↦
          let mine : nat_eq c.index-history-place.result.pass c.args.number ≡ true = let e = w.if-entry-number.true in grind (arith, nat_tests) in
          let e : c.index-history-place.result ≡ w.index-entries-at.result = w.if-not-same_entry.ensures.0 refl in
          let here : get_or c.args.entries.now c.loop-place.at c.index-history-place.result ≡ c.index-history-place.result = rw e (sym w.index-entries-at.is) in
          let next = walk_same c.args.entries.now _ c.loop-place.at c.index-history-place.result c.loop-place.invariant.same c.loop-place.invariant.at w.if-at-entries.true here in
          rw (w.at-is, step, part_mine c.args.number c.index-history-place.result mine) (record { same = next.0; at = next.1 })
      | then-entry-number+else-at-entries w ↦
          let next = walk_over c.args.entries.now _ (part_of c.args.number (c.index-history-place.result ∷ [])) c.loop-place.at c.loop-place.invariant.same c.loop-place.invariant.at w.if-at-entries.false in
          rw (w.at-is, step) (record { same = next.0; at = next.1 })
      | else-entry-number w ↦
          let other : nat_eq c.index-history-place.result.pass c.args.number ≡ false = let e = w.if-entry-number.false in grind (arith, nat_tests) in
          let next = walk_none c.args.entries.now _ c.loop-place.at c.loop-place.invariant.same c.loop-place.invariant.at in
          rw (w.at-is, step, part_other c.args.number c.index-history-place.result other) (record { same = next.0; at = next.1 })
    ]

pub returns-then-at-entries-2-clause-is : goal.returns-then-at-entries-2-clause-is
returns-then-at-entries-2-clause-is c = λ kept here.
    let whole : take c.loop-place.place c.args.history.now ≡ c.args.history.now = take_all _ _ (omega arith) in
    walk_ends _ _ _ kept (rw whole at c.loop-place.invariant.same) (rw whole at c.loop-place.invariant.at) (omega arith) here
