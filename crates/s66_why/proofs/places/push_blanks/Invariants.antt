use Rattle.std.proofs.Common.{◌≡◌, ◌-◌, ◌++◌, replicate}
use Rattle.s66_why.proofs.places.push_blanks.Given as goal

abbrev pub invariant-loop-done : goal.invariant-loop-done
invariant-loop-done l = l.out.items ++ replicate (l.count - l.done) 32 ≡ l.fn.out.items ++ replicate l.count 32
