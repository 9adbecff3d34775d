use Rattle.std.proofs.Common.{◌≡◌, ◌≤◌, ◌*◌, ◌/◌, length, take, length-take, ap, arith}
use Rattle.std.proofs.lemmas.Grind.{common_steps}
use Rattle.std.proofs.Math.Nat.{mul-div-le, mul-le-mul_left}
use Rattle.wasi_pipeline.specs.Kinds.{become_all}
use Rattle.wasi_pipeline.proofs.MovingFacts.{all_fit}
use Rattle.wasi_pipeline.proofs.stage.move_piece.Goals as goal

pub put_all-requires : goal.put_all-requires
put_all-requires c =
    let count = c.min-count.result in
    let room = c.room.result in
    let each = c.most_made.result in
    let fits : count ≤ room / each = omega (arith, c.min.ensures, c.min-2.ensures, c.min-count.ensures) in
    let within = mul-le-mul_left each fits in
    let all = mul-div-le room each in
    let made = ap length c.make-length.ensures.made in
    let taken : length c.take_into.new.bytes ≡ count = grind (arith, common_steps) in
    let most : length (become_all c.args.kind c.args.last.now c.take_into.new.bytes) ≤ each * count = rw (c.most_made.ensures.value, ← taken) (all_fit c.args.kind c.args.last.now c.take_into.new.bytes) in
    omega (arith, made, most, within, all, c.room.ensures.room, c.room.ensures.within)
