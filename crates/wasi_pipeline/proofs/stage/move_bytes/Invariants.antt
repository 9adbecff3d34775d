use Rattle.std.proofs.Common.{◌≡◌, ◌≤◌, ◌+◌, ◌-◌, ◌++◌}
use Rattle.wasi_pipeline.specs.Chain.{room_of}
use Rattle.wasi_pipeline.specs.Kinds.{moving}
use Rattle.wasi_pipeline.proofs.stage.move_bytes.Given as goal

-- what is done so far, and what is left to do, are what is to be done
abbrev pub invariant-pieces : goal.invariant-pieces
invariant-pieces l =
    let rest = moving l.kind l.last (l.most - l.count) (room_of l.to) l.from.held in
    let whole = moving l.kind l.fn.last l.most (room_of l.fn.to) l.fn.from.held in
    record {
      within : l.count ≤ l.most;
      count : l.count + rest.count ≡ whole.count;
      last : rest.last ≡ whole.last;
      left : rest.left ≡ whole.left;
      bound : l.from.bound ≡ l.fn.from.bound;
      limit : l.to.bound ≡ l.fn.to.bound;
      made : l.to.held ++ rest.made ≡ l.fn.to.held ++ whole.made;
    }

abbrev pub decreases-pieces : goal.decreases-pieces
decreases-pieces l = l.most - l.count
