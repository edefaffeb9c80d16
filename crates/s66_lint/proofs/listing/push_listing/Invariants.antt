use Rattle.std.proofs.Common.{◌≡◌, ◌++◌, drop}
use Rattle.s66_lint.specs.{listing}
use Rattle.s66_lint.proofs.listing.push_listing.Given as goal

abbrev pub invariant-loop-found : goal.invariant-loop-found
invariant-loop-found l = l.out.items ++ listing l.cut l.alone (drop l.found-index l.all) ≡ l.fn.out.items ++ listing l.cut l.alone l.all
