use Rattle.std.proofs.Common.{◌≡◌, length}
use Rattle.s66_isa.specs.{some_of}
use Rattle.s66_cert.specs.{is_factual}
use Rattle.s66_reasons.proofs.tree.some_factual.Given as goal

abbrev pub invariant-loop-line : goal.invariant-loop-line
invariant-loop-line l = some_of is_factual l.lines ≡ some_of is_factual l.fn.lines

abbrev pub decreases-loop-line : goal.decreases-loop-line
decreases-loop-line l = length l.lines
