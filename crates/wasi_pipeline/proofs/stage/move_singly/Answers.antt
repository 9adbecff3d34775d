use Rattle.std.proofs.Common.{◌≡◌, ◌-◌, ◌<◌, length, arith, Some, None}
use Rattle.std.proofs.lemmas.Grind.{common_steps}
use Rattle.std.specs.Prelude.{slice_get}
use Rattle.wasi_pipeline.specs.Chain.{room_of}
use Rattle.wasi_pipeline.specs.Kinds.{becomes}
use Rattle.wasi_pipeline.proofs.MovingFacts.{link_is, nothing_left, none_asked, no_room}
use Rattle.wasi_pipeline.proofs.stage.move_singly.Goals as goal

pub returns-in-None-clause-count : goal.returns-in-None-clause-count
returns-in-None-clause-count c =
    let none : slice_get c.bytes.from.held 0 ≡ None = cc in
    let is = rw (nothing_left c.args.kind c.bytes.last (c.args.most - c.bytes.count) (room_of c.bytes.to) c.bytes.from.held none) at c.bytes.invariant.count in
    omega (arith, is)

pub returns-in-None-clause-last : goal.returns-in-None-clause-last
returns-in-None-clause-last c =
    let none : slice_get c.bytes.from.held 0 ≡ None = cc in
    rw (nothing_left c.args.kind c.bytes.last (c.args.most - c.bytes.count) (room_of c.bytes.to) c.bytes.from.held none) at c.bytes.invariant.last

pub returns-in-None-clause-left : goal.returns-in-None-clause-left
returns-in-None-clause-left c =
    let none : slice_get c.bytes.from.held 0 ≡ None = cc in
    link_is _ _ _ c.bytes.invariant.bound (rw (nothing_left c.args.kind c.bytes.last (c.args.most - c.bytes.count) (room_of c.bytes.to) c.bytes.from.held none) at c.bytes.invariant.left)

pub returns-in-None-clause-made : goal.returns-in-None-clause-made
returns-in-None-clause-made c =
    let none : slice_get c.bytes.from.held 0 ≡ None = cc in
    let is = rw (nothing_left c.args.kind c.bytes.last (c.args.most - c.bytes.count) (room_of c.bytes.to) c.bytes.from.held none) at c.bytes.invariant.made in
    link_is _ _ _ c.bytes.invariant.limit (grind (arith, common_steps, is))

pub returns-then-len-room-clause-count : goal.returns-then-len-room-clause-count
returns-then-len-room-clause-count c =
    let first : slice_get c.bytes.from.held 0 ≡ Some c.in-Some.byte = cc in
    let more : room_of c.bytes.to < length (becomes c.args.kind c.bytes.last c.in-Some.byte) = rw (← c.made_of-made.ensures) (omega arith) in
    let is = rw (no_room c.args.kind c.bytes.last (c.args.most - c.bytes.count) (room_of c.bytes.to) c.in-Some.byte c.bytes.from.held first more) at c.bytes.invariant.count in
    omega (arith, is)

pub returns-then-len-room-clause-last : goal.returns-then-len-room-clause-last
returns-then-len-room-clause-last c =
    let first : slice_get c.bytes.from.held 0 ≡ Some c.in-Some.byte = cc in
    let more : room_of c.bytes.to < length (becomes c.args.kind c.bytes.last c.in-Some.byte) = rw (← c.made_of-made.ensures) (omega arith) in
    rw (no_room c.args.kind c.bytes.last (c.args.most - c.bytes.count) (room_of c.bytes.to) c.in-Some.byte c.bytes.from.held first more) at c.bytes.invariant.last

pub returns-then-len-room-clause-left : goal.returns-then-len-room-clause-left
returns-then-len-room-clause-left c =
    let first : slice_get c.bytes.from.held 0 ≡ Some c.in-Some.byte = cc in
    let more : room_of c.bytes.to < length (becomes c.args.kind c.bytes.last c.in-Some.byte) = rw (← c.made_of-made.ensures) (omega arith) in
    link_is _ _ _ c.bytes.invariant.bound (rw (no_room c.args.kind c.bytes.last (c.args.most - c.bytes.count) (room_of c.bytes.to) c.in-Some.byte c.bytes.from.held first more) at c.bytes.invariant.left)

pub returns-then-len-room-clause-made : goal.returns-then-len-room-clause-made
returns-then-len-room-clause-made c =
    let first : slice_get c.bytes.from.held 0 ≡ Some c.in-Some.byte = cc in
    let more : room_of c.bytes.to < length (becomes c.args.kind c.bytes.last c.in-Some.byte) = rw (← c.made_of-made.ensures) (omega arith) in
    let is = rw (no_room c.args.kind c.bytes.last (c.args.most - c.bytes.count) (room_of c.bytes.to) c.in-Some.byte c.bytes.from.held first more) at c.bytes.invariant.made in
    link_is _ _ _ c.bytes.invariant.limit (grind (arith, common_steps, is))

pub returns-clause-count : goal.returns-clause-count
returns-clause-count c =
    let all : c.args.most - c.bytes.count ≡ 0 = omega arith in
    let is = rw (none_asked c.args.kind c.bytes.last (c.args.most - c.bytes.count) (room_of c.bytes.to) c.bytes.from.held all) at c.bytes.invariant.count in
    omega (arith, is)

pub returns-clause-last : goal.returns-clause-last
returns-clause-last c =
    let all : c.args.most - c.bytes.count ≡ 0 = omega arith in
    rw (none_asked c.args.kind c.bytes.last (c.args.most - c.bytes.count) (room_of c.bytes.to) c.bytes.from.held all) at c.bytes.invariant.last

pub returns-clause-left : goal.returns-clause-left
returns-clause-left c =
    let all : c.args.most - c.bytes.count ≡ 0 = omega arith in
    link_is _ _ _ c.bytes.invariant.bound (rw (none_asked c.args.kind c.bytes.last (c.args.most - c.bytes.count) (room_of c.bytes.to) c.bytes.from.held all) at c.bytes.invariant.left)

pub returns-clause-made : goal.returns-clause-made
returns-clause-made c =
    let all : c.args.most - c.bytes.count ≡ 0 = omega arith in
    let is = rw (none_asked c.args.kind c.bytes.last (c.args.most - c.bytes.count) (room_of c.bytes.to) c.bytes.from.held all) at c.bytes.invariant.made in
    link_is _ _ _ c.bytes.invariant.limit (grind (arith, common_steps, is))
