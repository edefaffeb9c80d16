-- Used by contracts: what they see of the beginning of an order that a checker has reached.
use Rattle.std.specs.Prelude.{ℕ, List}
use Rattle.s66_model.specs.{Problem}

pub record Checked : Type 0 where
  pub problem : Problem
  pub numbers : List ℕ
