use Rattle.std.proofs.Common.{◌≡◌, ◌+◌, ◌++◌, length}
use Rattle.s66_views.specs.{AreOf, page_entries, entry}
use Rattle.s66_views.proofs.page.page.push_entries.Given as goal

abbrev pub invariant-loop-blocks : goal.invariant-loop-blocks
invariant-loop-blocks l = record {
  text : l.out.items ++ page_entries (entry l.fn.part l.fn.timer) l.number l.blocks l.found ≡ l.fn.out.items ++ page_entries (entry l.fn.part l.fn.timer) l.fn.before l.fn.blocks l.fn.found;
  profile : l.timer ≡ l.fn.timer;
  orders : AreOf l.blocks l.found;
  number : l.number + length l.blocks ≡ l.fn.before + length l.fn.blocks;
}

abbrev pub decreases-loop-blocks : goal.decreases-loop-blocks
decreases-loop-blocks l = length l.blocks
