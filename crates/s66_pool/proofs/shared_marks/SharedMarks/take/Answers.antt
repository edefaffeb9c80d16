use Rattle.std.proofs.Common.{rules, ◌∙◌}
use Rattle.s66_pool.proofs.PartSteps.{takes_at, took}
use Rattle.s66_pool.proofs.shared_marks.SharedMarks.take.Goals as goal

pub compare_exchange-requires : goal.compare_exchange-requires
compare_exchange-requires g c = (c.loop.invariant.0, search rules, takes_at _ _ _ _ _ c.requires.part c.loop.invariant.1)

pub returns-then-compare_exchange-eq0 : goal.returns-then-compare_exchange-eq0
returns-then-compare_exchange-eq0 g c =
    (c.compare_exchange.ensures.0 ∙ c.loop.invariant.0, took _ _ _ _ c.loop.invariant.1 (c.compare_exchange.ensures.2.0 c.if-compare_exchange-eq0.true))
