use Rattle.std.proofs.Common.{◌≡◌, if◌then◌else◌, take}
use Rattle.s66_isa.specs.{greatest, same_reg}
use Rattle.s66_model.specs.{ResultAt}
use Rattle.s66_why.proofs.placed.PlacedInstr.done_at.Given as goal

abbrev pub invariant-loop-made : goal.invariant-loop-made
invariant-loop-made l = l.done ≡ greatest (λ (d : ResultAt). if same_reg d.reg l.register then d.time else 0) (take l.made-index l.made-items)
