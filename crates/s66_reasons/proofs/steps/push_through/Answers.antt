use Rattle.std.proofs.Common.{arith}
use Rattle.s66_moments.specs.{Issue, Start, Origin, At, End}
use Rattle.s66_reasons.proofs.ShortPaths.{found-short}
use Rattle.s66_reasons.proofs.steps.push_through.Goals as goal

pub push_comes-requires : goal.push_comes-requires
push_comes-requires c =
    let g = c.args.facts.now in
    omega (
      arith,
      c.unwrap_or-soonest.ensures,
      c.unwrap_or.ensures,
      found-short g c.count-count.ensures.ordered Origin (At c.args.n Issue) _ c.head-head.ensures.issue,
      found-short g c.count-count.ensures.ordered (At c.args.n Issue) End _ c.tail-tail.ensures.issue,
    )

pub push_comes-requires-else-reaches_both : goal.push_comes-requires-else-reaches_both
push_comes-requires-else-reaches_both c =
    let g = c.args.facts.now in
    omega (
      arith,
      c.unwrap_or-soonest-else-reaches_both.ensures,
      c.unwrap_or-else-reaches_both.ensures,
      found-short g c.count-count.ensures.ordered Origin (At c.args.n Start) _ c.head-head.ensures.start,
      found-short g c.count-count.ensures.ordered (At c.args.n Start) End _ c.tail-tail.ensures.start,
    )
