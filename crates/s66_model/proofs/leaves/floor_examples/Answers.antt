use Rattle.std.proofs.Common.{◌≡◌, [], ◌∷◌}
use Rattle.s66_isa.specs.{Boolean, Shift, Multiply, row}
use Rattle.s66_model.specs.{Problem, issue_of, start_of, point, conflict, Leaf, Chain, Load, Parcels, floor, IsFloor, load_problem}
use Rattle.s66_model.proofs.Floors.{floor-is, floor-only}
use Rattle.s66_model.proofs.leaves.floor_examples.Goals as goal

-- the floor of the empty prefix is the one that is computed
only : {b : Problem} {leaf : Leaf} → IsFloor b [] leaf → leaf ≡ floor b []
only {b} {leaf} is = floor-only b [] leaf (floor b []) is (floor-is b [] tt)

pub returns-clause-is_floor : goal.returns-clause-is_floor
unfolding row issue_of start_of point conflict
returns-clause-is_floor c = floor-is load_problem [] tt

pub returns-clause-not_the_greatest : goal.returns-clause-not_the_greatest
unfolding row issue_of start_of point conflict
returns-clause-not_the_greatest c = λ is. (let same : Parcels ≡ Load Multiply = only is in cc)

pub returns-clause-load_after_chain : goal.returns-clause-load_after_chain
unfolding row issue_of start_of point conflict
returns-clause-load_after_chain c = λ is. (let same : Load Boolean ≡ Chain (1 ∷ []) = only is in cc)

pub returns-clause-parcels_after_load : goal.returns-clause-parcels_after_load
unfolding row issue_of start_of point conflict
returns-clause-parcels_after_load c = λ is. (let same : Parcels ≡ Load Boolean = only is in cc)

pub returns-clause-later_kind : goal.returns-clause-later_kind
unfolding row issue_of start_of point conflict
returns-clause-later_kind c = λ is. (let same : Load Shift ≡ Load Boolean = only is in cc)

pub returns-clause-later_head : goal.returns-clause-later_head
unfolding row issue_of start_of point conflict
returns-clause-later_head c = λ is. (let same : Chain (2 ∷ 3 ∷ []) ≡ Chain (1 ∷ 4 ∷ []) = only is in cc)

pub returns-clause-longer_chain : goal.returns-clause-longer_chain
unfolding row issue_of start_of point conflict
returns-clause-longer_chain c = λ is. (let same : Chain (1 ∷ 2 ∷ 3 ∷ []) ≡ Chain (1 ∷ []) = only is in cc)
