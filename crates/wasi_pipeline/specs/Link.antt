-- What a link between two stages holds.
use Rattle.std.specs.Prelude.{ℕ, List}

-- the most bytes that it may hold, and those that it holds, the first to be taken first
pub record LinkState : Type 0 where
  pub bound : ℕ
  pub held : List ℕ
