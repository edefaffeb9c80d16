use Rattle.std.proofs.Common.{arith, subst, ◌+◌, ◌≡◌, ◌↔◌, IsTrue}
use Rattle.s66_model.specs.{points_of, next, Clamp, clamp_at, IsNoLater}
use Rattle.s66_time.proofs.MarksWithin.{marks-dominate, mark-early, same-clamp}
use Rattle.s66_time.proofs.dominance.dominates_clamped.Goals as goal

pub returns-clause-no_later : goal.returns-clause-no_later
returns-clause-no_later c = λ b other prefix of_other of_prefix.
    let now = next (points_of b prefix) in
    let readers : c.saturating_add.result ≡ now + 1 = omega (arith, c.saturating_add.ensures, of_prefix.next, mark-early b prefix c.args.prefix.now of_prefix) in
    subst (λ (clamp : Clamp). IsTrue c.is_within.result ↔ IsNoLater b clamp (points_of b other) (points_of b prefix)) (same-clamp c.saturating_add.result c.args.prefix.now.next now readers of_prefix.next) (c.is_within.ensures b other prefix of_other of_prefix)

pub returns-clause-dominates : goal.returns-clause-dominates
returns-clause-dominates c = λ b other prefix of_other of_prefix same.
    let now = next (points_of b prefix) in
    let exact = returns-clause-no_later c b other prefix of_other of_prefix in (
      λ yes. marks-dominate b (clamp_at now) other prefix c.args.other.now c.args.prefix.now of_other of_prefix same (exact.0 yes),
      λ h. exact.1 h.no_later,
    )
