use Rattle.std.proofs.Common.{◌≡◌, sym, subst, ◌∙◌}
use Rattle.s66_moments.proofs.MoreArcs.{same_moment-true}
use Rattle.s66_facts.specs.{Ground, Forward, AreAll}
use Rattle.s66_facts.proofs.facts.Facts.heads_from.Goals as goal

pub returns-then-is_same_moment : goal.returns-then-is_same_moment
returns-then-is_same_moment c =
    let is : c.self.inside.from ≡ c.args.from.now = same_moment-true c.self.inside.from c.args.from.now (sym c.is_same_moment.ensures ∙ c.if-is_same_moment.true) in
    subst (λ (k : Ground). AreAll Forward k c.args.from.now c.self.inside.heads_from) c.self.view_is (subst (λ m. AreAll Forward c.self.inside.graph m c.self.inside.heads_from) is c.self.invariant.3)
