use Rattle.std.proofs.Common.{subst, sym}
use Rattle.s66_model.specs.{floor, IsFloor}
use Rattle.s66_model.proofs.Floors.{floor-is, floor-only}
use Rattle.s66_model.proofs.leaves.floor_law.Goals as goal

pub returns : goal.returns
returns c = λ b prefix leaf h. (λ is. floor-only b prefix leaf (floor b prefix) is (floor-is b prefix h), λ e. subst (IsFloor b prefix) (sym e) (floor-is b prefix h))
