use Rattle.std.proofs.Common.{◌≡◌, ◌+◌, ◌++◌, drop}
use Rattle.s66_program.specs.{lines_of_blocks}
use Rattle.s66_program.proofs.listing.text_of_blocks.Given as goal

abbrev pub invariant-loop-i : goal.invariant-loop-i
invariant-loop-i g l = record {
  profile : l.timer ≡ l.profile;
  lines : l.out.items ++ lines_of_blocks (g.L.Listing.lines l.listing l.profile) (l.before + l.i) (drop l.i l.blocks) ≡ lines_of_blocks (g.L.Listing.lines l.listing l.profile) l.before l.blocks;
}
