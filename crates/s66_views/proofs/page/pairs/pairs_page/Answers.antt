use Rattle.std.proofs.Common.{◌≡◌, ◌≤◌, ◌*◌, ◌∙◌, List, length, ap₂, subst, sym}
use Rattle.s66_source.specs.{frame_of, SOURCE_LINES_LIMIT}
use Rattle.s66_compare.specs.{is_accepted, first_difference, Row}
use Rattle.s66_compare.proofs.Accepted.{few-rows}
use Rattle.s66_views.specs.{pairs_text}
use Rattle.s66_views.proofs.page.pairs.pairs_page.Goals as goal

pub pairs_text-requires-clause-few : goal.pairs_text-requires-clause-few
pairs_text-requires-clause-few c =
    subst (λ (rs : List Row). length rs ≤ 2 * SOURCE_LINES_LIMIT) (sym c.as_slice-rows.ensures.value)
    (few-rows c.args.profile.now c.args.old.now c.args.new.now c.blocks-old_blocks.result.now c.blocks-new_blocks.result.now c.in_ok-rows.rows.items c.blocks-old_blocks.ensures c.blocks-new_blocks.ensures c.in_ok-rows.ensures.rows)

pub returns : goal.returns
returns c =
    let blocks = c.blocks-old_blocks.result.now in
    let again = c.blocks-new_blocks.result.now in
    let rows = c.in_ok-rows.rows.items in
    let difference : c.in_ok-difference.difference ≡ first_difference (frame_of c.args.old.now) (frame_of c.args.new.now) = c.in_ok-difference.ensures in
    (blocks, again, c.blocks-old_blocks.ensures, c.blocks-new_blocks.ensures, (rows, c.in_ok-rows.ensures.rows, (c.in_ok-text.ensures ∙ ap₂ (pairs_text c.args.profile.now blocks again) c.as_slice-rows.ensures.value difference, c.is_accepted.ensures ∙ ap₂ is_accepted c.as_slice-rows.ensures.value difference)))
