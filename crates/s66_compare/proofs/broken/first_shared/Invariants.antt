use Rattle.std.proofs.Common.{◌≡◌, drop}
use Rattle.s66_compare.specs.{first_shared}
use Rattle.s66_compare.proofs.broken.first_shared.Given as goal

abbrev pub invariant-loop-register : goal.invariant-loop-register
invariant-loop-register l = first_shared (drop l.register-index l.registers) l.others ≡ first_shared l.registers l.others
