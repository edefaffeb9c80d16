use Rattle.std.proofs.Common.{◌≡◌, ◌<◌, ◌≤◌, length, get_or}
use Rattle.s66_isa.specs.Table.{Reg}
use Rattle.s66_isa.specs.{index_of, no_set}
use Rattle.s66_model.specs.{Problem, row_at, uses}
use Rattle.s66_bound.specs.{AreCosts, IsRanking, AreRanks}
use Rattle.s66_bound.proofs.tables.users_by_rank.Given as goal

abbrev pub invariant-loop-index : goal.invariant-loop-index
invariant-loop-index l = record {
  size : length l.users ≡ 24;
  known : (b : Problem) → AreCosts b l.costs → IsRanking b l.ranking → (x : Reg) → x.digit ≤ 7 → index_of x < l.index → AreRanks b (λ n. uses (row_at b n) x) (get_or l.users (index_of x) no_set);
}
