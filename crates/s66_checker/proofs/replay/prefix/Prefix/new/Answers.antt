use Rattle.std.proofs.Common.{ap}
use Rattle.s66_isa.specs.{has}
use Rattle.s66_checker.proofs.PrefixSteps.{prefix-start}
use Rattle.s66_checker.proofs.replay.prefix.Prefix.new.Goals as goal

pub invariant_of-result : goal.invariant_of-result
invariant_of-result c =
    prefix-start _ _ _ _ _ _ _ _ c.requires.some c.requires.few c.in-Ok.ensures.0 c.rows_of.ensures c.needs_of_all.ensures (λ m. ap (has m) c.empty.ensures) c.new.ensures c.new-2.ensures
