use Rattle.std.proofs.Common.{refl}
use Rattle.wasi_threads.proofs.RoundFacts.{sight_of, round_of, round_gave, round_worked, gains_sight, gains_last, gains_unseen}
use Rattle.wasi_threads.proofs.shared.SharedStdin.round.Goals as goal

pub returns-in-Stopped : goal.returns-in-Stopped
returns-in-Stopped g c = (sight_of _ _ _ _ c.in-Stopped.ensures, gains_sight _ _ c.in-Stopped.ensures)

pub returns-in-End : goal.returns-in-End
returns-in-End g c =
    (round_worked _ _ _ _ _ _ _ (round_of _ _ _ _ _ _ _ _ _ _ c.in-Some.ensures.0 c.give.ensures c.read_once-gift.ensures.fits c.read_once-gift.ensures.gives c.read_once-gift.ensures.later c.read_once-gift.ensures.fault), gains_last _ _ _ _ c.give.ensures (rw c.in-End.is refl))

pub returns-in-Fault : goal.returns-in-Fault
returns-in-Fault g c =
    (round_worked _ _ _ _ _ _ _ (round_of _ _ _ _ _ _ _ _ _ _ c.in-Some.ensures.0 c.give.ensures c.read_once-gift.ensures.fits c.read_once-gift.ensures.gives c.read_once-gift.ensures.later c.read_once-gift.ensures.fault), gains_last _ _ _ _ c.give.ensures (rw c.in-Fault.is refl))

pub returns-in-Gave : goal.returns-in-Gave
returns-in-Gave g c =
    (round_gave _ _ _ _ _ _ _ (rw c.in-Gave.is refl) (round_of _ _ _ _ _ _ _ _ _ _ c.in-Some.ensures.0 c.give.ensures c.read_once-gift.ensures.fits c.read_once-gift.ensures.gives c.read_once-gift.ensures.later c.read_once-gift.ensures.fault), gains_unseen _ _ _ _ _ _ c.in-Some.ensures.0 c.give.ensures)
