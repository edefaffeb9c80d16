use Rattle.std.proofs.Common.{◌≡◌, ◌<◌, ◌≤◌, ◌↔◌, [], length, take, get_or}
use Rattle.s66_ledger.specs.{prefixes}
use Rattle.s66_ledger.proofs.path.is_over.Given as goal

abbrev pub invariant-loop-i : goal.invariant-loop-i
invariant-loop-i l =
    record {
      within : l.i < length l.nodes;
      rest : l.rest ≤ length l.prefix;
      so : (get_or (prefixes l.nodes) l.fn.node [] ≡ l.prefix) ↔ (get_or (prefixes l.nodes) l.i [] ≡ take l.rest l.prefix);
    }

abbrev pub decreases-loop-i : goal.decreases-loop-i
decreases-loop-i l = l.i
