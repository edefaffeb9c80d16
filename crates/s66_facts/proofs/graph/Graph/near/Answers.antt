use Rattle.std.proofs.Common.{sym, subst}
use Rattle.s66_facts.specs.{before_in, sooner, IsNear}
use Rattle.s66_facts.proofs.graph.Graph.near.Goals as goal

pub returns-in-Backward : goal.returns-in-Backward
returns-in-Backward c =
    subst (λ d. IsNear c.args.self.now.problem (sooner d (before_in c.args.self.now.marks)) c.near_after.result c.args.n) (sym c.in-Backward.is) c.near_after.ensures
