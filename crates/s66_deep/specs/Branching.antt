-- Used by contracts: what stays so of a best-first search that goes on: its block and profile, that its best order gets no slower, and
-- how many splits it has made.
use Rattle.std.specs.Prelude.{ℕ, ◌≡◌, ◌≤◌}
use Rattle.s66_model.specs.{total_of}
use Rattle.s66_time.specs.TimedOrder.{TimedOrder}

-- an order of the same block under the same profile, which takes no more
pub record IsNoSlower (old new : TimedOrder) : Type 0 where
  pub problem : new.problem ≡ old.problem
  pub total : total_of new.problem new.numbers ≤ total_of old.problem old.numbers

-- the fastest order that a search has met, how many splits it has made, and the most
pub record Searching : Type 0 where
  pub best : TimedOrder
  pub splits : ℕ
  pub most : ℕ

-- without a split
pub record Looks (old new : Searching) : Type 0 where
  pub best : IsNoSlower old.best new.best
  pub splits : new.splits ≡ old.splits
  pub most : new.most ≡ old.most

-- with no more splits than it may make
pub record SearchGoesOn (old new : Searching) : Type 0 where
  pub best : IsNoSlower old.best new.best
  pub splits : old.splits ≤ old.most → new.splits ≤ old.most
  pub most : new.most ≡ old.most
