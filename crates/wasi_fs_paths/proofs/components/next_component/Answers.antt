use Rattle.std.proofs.Common.{◌≡◌, ◌<◌, [], ◌∷◌, length, arith, rules, ◌∙◌}
use Rattle.wasi_fs_paths.specs.Components.{parts}
use Rattle.wasi_fs_paths.proofs.PartFacts.{first_part, next_here, next_skip, next_last, next_none}
use Rattle.wasi_fs_paths.proofs.components.next_component.Goals as goal

pub returns-then-does_count : goal.returns-then-does_count
returns-then-does_count c =
    let f = first_part c.parts.rest.now c.split_once.result c.split_once.ensures.cases in
    let h : (parts c.parts.rest.now ≡ c.in-Some.part.now ∷ parts c.in-Some.after.now) × (length c.in-Some.after.now < length c.parts.rest.now) = rw c.in-Some.is at f in
    record {
      is = c.parts.invariant.same ∙ next_here c.parts.rest.now c.in-Some.part.now c.in-Some.after.now h.0 c.if-does_count.ensures;
      less = omega (arith, h.1, c.parts.invariant.less);
    }

pub parts-preserved : goal.parts-preserved
parts-preserved c =
    let f = first_part c.parts.rest.now c.split_once.result c.split_once.ensures.cases in
    let h : (parts c.parts.rest.now ≡ c.in-Some.part.now ∷ parts c.in-Some.after.now) × (length c.in-Some.after.now < length c.parts.rest.now) = rw c.in-Some.is at f in
    record {
      text = search rules;
      same = c.parts.invariant.same ∙ next_skip c.parts.rest.now c.in-Some.part.now c.in-Some.after.now h.0 c.if-does_count.ensures;
      less = omega (arith, h.1, c.parts.invariant.less);
    }

pub returns-then-does_count-2 : goal.returns-then-does_count-2
returns-then-does_count-2 c =
    let f = first_part c.parts.rest.now c.split_once.result c.split_once.ensures.cases in
    let h : parts c.parts.rest.now ≡ c.parts.rest.now ∷ [] = rw c.in_default.is at f in
    let n = next_last c.parts.rest.now h c.if-does_count-2.ensures in
    record { is = c.parts.invariant.same ∙ n.is; less = omega (arith, n.less, c.parts.invariant.less) }

pub returns-else-does_count-2 : goal.returns-else-does_count-2
returns-else-does_count-2 c =
    let f = first_part c.parts.rest.now c.split_once.result c.split_once.ensures.cases in
    let h : parts c.parts.rest.now ≡ c.parts.rest.now ∷ [] = rw c.in_default.is at f in
    c.parts.invariant.same ∙ next_none c.parts.rest.now h c.if-does_count-2.ensures
