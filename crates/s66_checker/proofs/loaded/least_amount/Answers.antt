use Rattle.s66_moments.proofs.LeastUse.{least-begun}
use Rattle.s66_checker.proofs.loaded.least_amount.Goals as goal

pub loop-n-init : goal.loop-n-init
loop-n-init c = record {
  least = least-begun c.args.prefix.now.problem c.args.numbers.now c.amount-low.result c.requires.some c.amount-low.ensures.value;
  at_most = c.amount-low.ensures.at_most;
  remain = c.requires.remain;
}
