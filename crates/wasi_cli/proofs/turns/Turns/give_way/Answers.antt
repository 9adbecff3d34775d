-- Who gives way waits behind the others.
use Rattle.std.proofs.Common.{◌<◌, ◌≡◌, ◌++◌, Some, length, get_or, drop, take, set, rules}
use Rattle.wasi_cli.specs.Turns.{IsTurn}
use Rattle.wasi_cli.proofs.TurnFacts.{rotated}
use Rattle.wasi_cli.proofs.turns.Turns.give_way.Goals as goal

pub invariant_of-self-in-Some : goal.invariant_of-self-in-Some
invariant_of-self-in-Some c =
    let waiting = c.self.inside.waiting.items in
    let next = c.in-Some.first.now in
    let some : 0 < length waiting = search rules in
    let first : next ≡ get_or waiting 0 next = search rules in
    let turns : c.rotate_left.new.self.items ≡ drop 1 (set waiting 0 c.args.who) ++ take 1 (set waiting 0 c.args.who) = c.rotate_left.ensures.items in
    let holds : IsTurn (record { holder = Some c.args.who; waiting = waiting }) = search rules in
    rotated c.args.who next waiting c.rotate_left.new.self.items some first turns holds
