use Rattle.std.proofs.Common.{◌≡◌, drop}
use Rattle.s66_isa.specs.{some_of, same_reg}
use Rattle.s66_model.specs.{ResultAt}
use Rattle.s66_why.proofs.placed.PlacedInstr.writes.Given as goal

abbrev pub invariant-loop-made : goal.invariant-loop-made
invariant-loop-made l = some_of (λ (d : ResultAt). same_reg d.reg l.register) (drop l.made-index l.made-items) ≡ some_of (λ (d : ResultAt). same_reg d.reg l.register) l.made-items
