use Rattle.std.proofs.Common.{arith}
use Rattle.s66_model.specs.{points_of, no_clamp}
use Rattle.s66_model.proofs.Dominating.{total-within}
use Rattle.s66_time.proofs.MarksWithin.{marks-dominate}
use Rattle.s66_time.proofs.dominance.dominates.Goals as goal

pub returns-clause-no_later : goal.returns-clause-no_later
returns-clause-no_later c = c.is_within.ensures

pub returns-clause-dominates : goal.returns-clause-dominates
returns-clause-dominates c = λ b other prefix of_other of_prefix same.
    let exact = c.is_within.ensures b other prefix of_other of_prefix in (
      λ yes. (
        marks-dominate b no_clamp other prefix c.args.other.now c.args.prefix.now of_other of_prefix same (exact.0 yes),
        omega (arith, total-within b no_clamp (points_of b other) (points_of b prefix) (exact.0 yes)),
      ),
      λ h. exact.1 h.0.no_later,
    )
