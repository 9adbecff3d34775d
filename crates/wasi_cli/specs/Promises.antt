-- What holds of every turn record, whatever is asked and freed.
use Rattle.std.specs.Prelude.{◌≡◌, false, List, [], ◌∷◌, ◌++◌, Some, IfSome}
use Rattle.wasi_cli.specs.declared.owner.Owner.{Owner}
use Rattle.wasi_cli.specs.Turns.{Turn, IsTurn, same, is_waiting, without, after_ask, after_free}

-- who neither has the turn nor waits for it
pub record IsApart (who : Owner) (turn : Turn) : Type 0 where
  pub holds_not : IfSome turn.holder (λ holder. same holder who ≡ false)
  pub waits_not : is_waiting who turn.waiting ≡ false

abbrev pub FreedAreGone : Type 0
FreedAreGone = (turn : Turn) (who : Owner) → IsTurn turn → IsApart who (after_free turn who)

-- who waits behind these alone
pub record IsBehind (before : List Owner) (who : Owner) (turn : Turn) : Type 0 where
  pub after : List Owner
  pub line : turn.waiting ≡ before ++ who ∷ after

-- the first that waited has the turn, and any other moved up
abbrev pub MovesUp : List Owner → Owner → Turn → Type 0
MovesUp [] who turn = turn.holder ≡ Some who
MovesUp (next ∷ before) who turn = (turn.holder ≡ Some next) × IsBehind before who turn

-- whoever asks comes behind; a holder's turn goes to the first; who leaves is missed by nobody
pub record TurnsPassInOrder : Type 0 where
  pub asked : (turn : Turn) (before : List Owner) (who other : Owner) → IsBehind before who turn → IsBehind before who (after_ask turn other)
  pub passed : (turn : Turn) (before : List Owner) (who holder : Owner) → turn.holder ≡ Some holder → IsBehind before who turn → MovesUp before who (after_free turn holder)
  pub left : (turn : Turn) (before : List Owner) (who holder other : Owner) → turn.holder ≡ Some holder → same holder other ≡ false → same who other ≡ false → IsBehind before who turn → IsBehind (without other before) who (after_free turn other)
