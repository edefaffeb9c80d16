use Rattle.s66_model.proofs.Dominating.{written-push, written-no-worse, clamped-push, clamped-total, clamped-no-worse, clamped-transitive, written-clamped}
use Rattle.s66_model.proofs.dominance.dominance_law.Goals as goal

pub returns : goal.returns
returns c = record {
  pushed = written-push;
  pushed_clamped = clamped-push;
  no_worse = written-no-worse;
  no_worse_clamped = clamped-no-worse;
  total = clamped-total;
  weaker = written-clamped;
  transitive = clamped-transitive;
}
