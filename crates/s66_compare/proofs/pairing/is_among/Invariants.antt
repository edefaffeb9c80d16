use Rattle.std.proofs.Common.{◌≡◌, drop}
use Rattle.s66_isa.specs.{has}
use Rattle.s66_compare.proofs.pairing.is_among.Given as goal

abbrev pub invariant-loop-other : goal.invariant-loop-other
invariant-loop-other l = has l.number (drop l.other-index l.numbers) ≡ has l.number l.numbers
