use Rattle.std.proofs.Common.{[], ◌∷◌, refl, inl, inr, arith}
use Rattle.s66_isa.specs.{row}
use Rattle.s66_model.specs.{issue_of, start_of, point, conflict}
use Rattle.s66_model.proofs.machine.expansion.best_whole_examples.Goals as goal

pub returns-clause-not_one_of_13 : goal.returns-clause-not_one_of_13
unfolding row issue_of start_of point conflict
returns-clause-not_one_of_13 c = λ is. absurd (omega (arith, is.1 (1 ∷ 3 ∷ 2 ∷ []) (inr (inl refl))))
