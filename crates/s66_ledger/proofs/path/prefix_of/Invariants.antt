use Rattle.std.proofs.Common.{◌≡◌, ◌<◌, ◌++◌, [], length, reverse, get_or}
use Rattle.s66_ledger.specs.{prefixes}
use Rattle.s66_ledger.proofs.path.prefix_of.Given as goal

abbrev pub invariant-loop-i : goal.invariant-loop-i
invariant-loop-i l =
    record {
      within : l.i < length l.nodes;
      so : get_or (prefixes l.nodes) l.fn.node [] ≡ get_or (prefixes l.nodes) l.i [] ++ reverse l.prefix.items;
    }

abbrev pub decreases-loop-i : goal.decreases-loop-i
decreases-loop-i l = l.i
