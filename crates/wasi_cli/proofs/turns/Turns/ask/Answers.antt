-- Who waits now, or finds no memory, leaves a turn record.
use Rattle.std.proofs.Common.{sym, subst, List, rules}
use Rattle.wasi_cli.specs.declared.owner.Owner.{Owner}
use Rattle.wasi_cli.specs.Turns.{IsTurn}
use Rattle.wasi_cli.proofs.TurnFacts.{queues}
use Rattle.wasi_cli.proofs.turns.Turns.ask.Goals.{in-Ok, in-Err}
use Rattle.wasi_cli.proofs.turns.Turns.ask.Goals as goal

pub invariant_of-self-in-Some-2 : goal.invariant_of-self-in-Some-2
invariant_of-self-in-Some-2 c =
    let at = λ (w : List Owner). IsTurn (record { holder = c.self.inside.holder; waiting = w }) in
    elim c.match-join.branch [
      | in-Ok w ↦ subst at (sym (search (w, c.join.ensures.joins, rules))) (queues c.self.inside.holder c.self.inside.waiting.items c.args.who (search rules) c.self.invariant)
      | in-Err w ↦ subst at (sym (search (w, c.join.ensures.memory, rules))) c.self.invariant
    ]
