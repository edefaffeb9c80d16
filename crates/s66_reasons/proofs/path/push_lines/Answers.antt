use Rattle.std.proofs.Common.{◌∙◌}
use Rattle.s66_reasons.specs.{line_name}
use Rattle.s66_reasons.proofs.Listed.{listed-more}
use Rattle.s66_reasons.proofs.path.push_lines.Goals as goal

pub loop-place-preserved : goal.loop-place-preserved
loop-place-preserved c =
    listed-more line_name c.args.numbers.now c.loop-place.place _ _ _ _ c.loop-place-test.true
    c.in_ok-push_between.ensures c.in_ok-extend_from_slice.ensures.items c.separator.ensures
    ∙ c.loop-place.invariant
