use Rattle.std.proofs.Common.{sym, ap, arith, length, ◌∙◌}
use Rattle.s66_isa.specs.{has, rising}
use Rattle.s66_isa.proofs.Lists.{among-rising, has-among}
use Rattle.s66_deep.proofs.floors.tables.PathTables.of.Goals as goal

pub returns-clause-ranks : goal.returns-clause-ranks
returns-clause-ranks c = record {
  all = λ n there.
      let count = length c.args.rows.now in
      let (low, high) = among-rising count 1 n (has-among n (rising count 1) (sym (ap (has n) c.up_to.ensures) ∙ there)) in
      (low, omega (arith, high));
  by_issue = c.ranking_by-by_issue.ensures.ranking;
  by_start = c.ranking_by-by_start.ensures.ranking;
}
