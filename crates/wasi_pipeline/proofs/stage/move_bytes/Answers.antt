use Rattle.std.proofs.Common.{◌≡◌, ◌-◌, ◌+◌, ◌++◌, length, take, ap, arith, sym, ◌∙◌, append_assoc}
use Rattle.std.proofs.lemmas.Grind.{common_steps}
use Rattle.wasi_pipeline.specs.Chain.{room_of}
use Rattle.wasi_pipeline.specs.Kinds.{Moved, become_all, moving}
use Rattle.wasi_pipeline.specs.Link.{LinkState}
use Rattle.wasi_pipeline.proofs.MovingFacts.{after_piece, link_is, none_asked}
use Rattle.wasi_pipeline.proofs.stage.move_bytes.Goals as goal

pub pieces-preserved : goal.pieces-preserved
pieces-preserved c =
    let old = c.pieces in
    let it = c.move_piece-piece in
    let so_far = old.invariant in
    let made = become_all c.args.kind old.last (take it.result old.from.held) in
    let rest = moving c.args.kind it.new.last (c.args.most - (old.count + it.result)) (room_of it.new.to) it.new.from.held in
    let is = after_piece c.args.kind old.last it.new.last it.result c.args.most old.count old.from old.to it.new.from it.new.to it.ensures.within.0 it.ensures.within.1 it.ensures.within.2 it.ensures.last it.ensures.left it.ensures.made in
    record {
      within = omega (arith, it.ensures.within.0, so_far.within);
      count = omega (arith, ap (λ (moved : Moved). moved.count) is, so_far.count);
      last = sym (ap (λ (moved : Moved). moved.last) is) ∙ so_far.last;
      left = sym (ap (λ (moved : Moved). moved.left) is) ∙ so_far.left;
      bound = ap (λ (link : LinkState). link.bound) it.ensures.left ∙ so_far.bound;
      limit = ap (λ (link : LinkState). link.bound) it.ensures.made ∙ so_far.limit;
      made = ap (λ (link : LinkState). link.held ++ rest.made) it.ensures.made ∙ append_assoc old.to.held made rest.made ∙ sym (ap (λ (moved : Moved). old.to.held ++ moved.made) is) ∙ so_far.made;
    }

pub returns-clause-count : goal.returns-clause-count
returns-clause-count c =
    let all : c.args.most - c.pieces.count ≡ 0 = omega arith in
    let is = rw (none_asked c.args.kind c.pieces.last (c.args.most - c.pieces.count) (room_of c.pieces.to) c.pieces.from.held all) at c.pieces.invariant.count in
    omega (arith, is)

pub returns-clause-last : goal.returns-clause-last
returns-clause-last c =
    let all : c.args.most - c.pieces.count ≡ 0 = omega arith in
    rw (none_asked c.args.kind c.pieces.last (c.args.most - c.pieces.count) (room_of c.pieces.to) c.pieces.from.held all) at c.pieces.invariant.last

pub returns-clause-left : goal.returns-clause-left
returns-clause-left c =
    let all : c.args.most - c.pieces.count ≡ 0 = omega arith in
    link_is _ _ _ c.pieces.invariant.bound (rw (none_asked c.args.kind c.pieces.last (c.args.most - c.pieces.count) (room_of c.pieces.to) c.pieces.from.held all) at c.pieces.invariant.left)

pub returns-clause-made : goal.returns-clause-made
returns-clause-made c =
    let all : c.args.most - c.pieces.count ≡ 0 = omega arith in
    let is = rw (none_asked c.args.kind c.pieces.last (c.args.most - c.pieces.count) (room_of c.pieces.to) c.pieces.from.held all) at c.pieces.invariant.made in
    link_is _ _ _ c.pieces.invariant.limit (grind (arith, common_steps, is))
