-- Used by contracts: what is true of an order that is found, and of what is found with it.
use Rattle.std.specs.Prelude.{ℕ, ◌≡◌, ◌≤◌}
use Rattle.s66_isa.specs.{numbers}
use Rattle.s66_model.specs.{source_time, Problem, total_of, splits}
use Rattle.s66_time.specs.TimedOrder.{TimedOrder}
use Rattle.s66_cert.specs.{tree_of_lines}
use Rattle.s66_deep.specs.declared.look.Looked.{Looked}

-- it takes no more than the source order, and is the source order if it takes as much
pub record IsGood (b : Problem) (t : TimedOrder) : Type 0 where
  pub problem : t.problem ≡ b
  pub source : total_of b t.numbers ≤ source_time b
  pub first : source_time b ≡ total_of b t.numbers → t.numbers ≡ numbers b.block

-- a good order, and with it what is to show a bound, by a tree of at most so many splits, and no more than all that were made
pub record IsLooked (b : Problem) (most all : ℕ) (l : Looked) : Type 0 where
  pub best : IsGood b l.best
  pub source : l.source ≡ source_time b
  pub bound : l.evidence.bound ≤ total_of b l.best.numbers
  pub made : splits (tree_of_lines l.evidence.vertices) ≤ all
  pub splits : splits (tree_of_lines l.evidence.vertices) ≤ most
