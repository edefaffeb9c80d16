use Rattle.std.proofs.Common.{◌∙◌, ap₂, refl}
use Rattle.s66_program.specs.{lines_of_blocks}
use Rattle.s66_program.proofs.listing.listing_output.Goals as goal

pub returns : goal.returns
returns g c = (
  c.blocks-2.result.now,
  c.blocks-2.ensures,
  c.in_ok-text_of_blocks.ensures ∙ ap₂ (λ n blocks. lines_of_blocks (g.L.Listing.lines c.args.listing.now c.args.profile.now) n blocks) c.blocks_before.ensures.value c.shown-blocks.ensures,
  refl,
)
