use Rattle.std.proofs.Common.{arith, ap, ◌∙◌, reverse}
use Rattle.s66_model.specs.{free_times}
use Rattle.s66_checker.proofs.UnitsNoLater.{places-stated, first-later, one-stated, two-stated}
use Rattle.s66_checker.proofs.replay.dominance.are_units_no_later.Goals as goal

pub returns-then-copies-gt2 : goal.returns-then-copies-gt2
returns-then-copies-gt2 c =
    places-stated c.args.copies c.args.clamp _ _ _ _ c.are_no_later.result
    (c.free_times.ensures ∙ ap (λ ps. free_times c.args.kind (reverse ps)) c.points.ensures)
    (c.free_times-then-copies-gt2.ensures ∙ ap (λ ps. free_times c.args.kind (reverse ps)) c.points-then-copies-gt2.ensures)
    c.are_no_later.ensures

pub returns-then-first-max : goal.returns-then-first-max
returns-then-first-max c =
    first-later c.args.kind c.args.own.now c.args.other.now c.words.result.now c.words-2.result.now c.kind_number-place.result c.args.copies c.args.clamp c.words.ensures c.words-2.ensures c.kind_number-place.ensures.value c.requires.some
    (omega (arith, c.if-first-max.true, c.max.ensures))

pub returns-then-copies-eq1 : goal.returns-then-copies-eq1
returns-then-copies-eq1 c =
    one-stated c.args.kind c.args.own.now c.args.other.now c.words.result.now c.words-2.result.now c.kind_number-place.result c.args.copies c.args.clamp c.words.ensures c.words-2.ensures c.kind_number-place.ensures.value (omega (arith, c.if-copies-eq1.true))
    (omega (arith, c.if-first-max.false, c.max.ensures))

pub returns : goal.returns
returns c =
    two-stated c.args.kind c.args.own.now c.args.other.now c.words.result.now c.words-2.result.now c.kind_number-place.result c.args.copies c.args.clamp c.words.ensures c.words-2.ensures c.kind_number-place.ensures.value (omega (arith, c.if-copies-eq1.false, c.if-copies-gt2.false, c.requires.some))
    (omega (arith, c.if-first-max.false, c.max.ensures)) c.max-2.result c.max-2.ensures
