use Rattle.std.proofs.Common.{◌<◌, ◌-◌, ◌++◌, [], true, take, length, refl, sym, ap, ◌∙◌, arith, length-append}
use Rattle.s66_line.specs.{lines_from}
use Rattle.s66_source.specs.{Standing, after_line, is_alone, SOURCE_LINES_LIMIT}
use Rattle.s66_lint.specs.{alone_from, alone_lines, as_read}
use Rattle.s66_lint.proofs.AloneLines.{alone_from-found, no-more, none-left, one-more}
use Rattle.s66_lint.proofs.deck.lines.Lines.of.Goals as goal

pub loop-row-init : goal.loop-row-init
loop-row-init c =
    let none = ap length c.new-alone.ensures.items in
    let first = ap (λ (s : Standing). s.bodies) c.at_first-standing.ensures in
    record {
      whole = rw (c.new-alone.ensures.items, c.at_first-standing.ensures, c.requires) (refl {a = alone_lines c.args.text.now});
      each = omega (arith, none, c.new-lines.ensures.len);
      so_far = omega (arith, none);
      few = omega (arith, none);
      bodies = omega (arith, none, first);
      continued = c.is_continued_at_first-continued.ensures;
    }

pub returns-then-len-clause-alone : goal.returns-then-len-clause-alone
returns-then-len-clause-alone c =
    let items = c.loop-row.alone.items in
    let all = c.if-len.true in
    sym (no-more SOURCE_LINES_LIMIT items (alone_from c.loop-row.standing (lines_from [] c.loop-row.rest.now)) (omega (arith, all, c.len.ensures))) ∙ c.loop-row.invariant.whole

pub loop-row-preserved : goal.loop-row-preserved
loop-row-preserved c =
    let items = c.loop-row.alone.items in
    let s = c.loop-row.standing in
    let line = c.in-Some.row.now in
    let more = c.in-Some.more.now in
    let below = c.if-len.false in
    let few : length items < SOURCE_LINES_LIMIT = omega (arith, below, c.len.ensures) in
    let next = c.is_continued-continued.result in
    let here = is_alone true s (as_read line) next in
    let later = alone_from (after_line true s (as_read line)) (lines_from [] more) in
    let longer = ap length c.in_ok-push_alone.ensures.alone ∙ length-append items _ in
    let left = ap length c.in-Some.ensures.line in
    let each = c.loop-row.invariant.each in
    let so_far = c.loop-row.invariant.so_far in
    record {
      whole = rw (c.in_ok-push_alone.ensures.alone, c.in_ok-push_alone.ensures.standing)
          (one-more SOURCE_LINES_LIMIT items here later few
          ∙ ap (λ more. items ++ take (SOURCE_LINES_LIMIT - length items) more) (sym (alone_from-found s c.loop-row.rest.now line more next c.in-Some.ensures.line c.is_continued-continued.ensures))
          ∙ c.loop-row.invariant.whole);
      each = omega (arith, longer, c.in_ok-push.ensures.len, each);
      so_far = omega (arith, longer, left, so_far);
      few = omega (arith, longer, few);
      bodies = c.in_ok-push_alone.ensures.bodies;
      continued = c.is_continued-continued.ensures;
    }

pub returns-clause-alone : goal.returns-clause-alone
returns-clause-alone c =
    let items = c.loop-row.alone.items in
    sym (none-left (SOURCE_LINES_LIMIT - length items) items)
    ∙ ap (λ lines. items ++ take (SOURCE_LINES_LIMIT - length items) (alone_from c.loop-row.standing lines)) (sym c.in_default.ensures.none)
    ∙ c.loop-row.invariant.whole
