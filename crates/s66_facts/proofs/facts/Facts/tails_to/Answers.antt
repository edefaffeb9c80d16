use Rattle.std.proofs.Common.{◌≡◌, sym, subst, ◌∙◌}
use Rattle.s66_moments.proofs.MoreArcs.{same_moment-true}
use Rattle.s66_facts.specs.{Ground, Backward, AreAll}
use Rattle.s66_facts.proofs.facts.Facts.tails_to.Goals as goal

pub returns-then-is_same_moment : goal.returns-then-is_same_moment
returns-then-is_same_moment c =
    let is : c.self.inside.to ≡ c.args.to.now = same_moment-true c.self.inside.to c.args.to.now (sym c.is_same_moment.ensures ∙ c.if-is_same_moment.true) in
    subst (λ (k : Ground). AreAll Backward k c.args.to.now c.self.inside.tails_to) c.self.view_is (subst (λ m. AreAll Backward c.self.inside.graph m c.self.inside.tails_to) is c.self.invariant.5)
