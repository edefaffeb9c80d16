use Rattle.std.proofs.Common.{[], ◌∷◌, arith, true≢false, sym}
use Rattle.s66_isa.specs.{row, x_reg}
use Rattle.s66_model.specs.{Rule, NoneNamed, WrittenEarlier, ClampedStanding, issue_of, start_of, point, conflict, ShowsBy, standard_problem, late_reader, late_reader_tree, fourth_bounding}
use Rattle.s66_model.specs.{fourth_split}
use Rattle.s66_model.proofs.dominated_leaves.dominated_examples.Goals as goal

other_set : (rule : Rule) → ¬ ShowsBy rule (standard_problem late_reader) 0 [] (late_reader_tree (1 ∷ 2 ∷ 4 ∷ []) fourth_bounding)
unfolding row issue_of start_of point conflict
other_set NoneNamed shows = shows.2.2.3.2.0.0
other_set WrittenEarlier shows = true≢false (sym (shows.2.2.3.2.0.0.2.0.same_set 3))
other_set ClampedStanding shows = true≢false (sym (shows.2.2.3.2.0.0.1.same_set 3))

pub returns-clause-another_set : goal.returns-clause-another_set
returns-clause-another_set c = other_set

result_later : (rule : Rule) → ¬ ShowsBy rule (standard_problem late_reader) 0 [] (late_reader_tree (1 ∷ 2 ∷ 3 ∷ []) fourth_split)
unfolding row issue_of start_of point conflict
result_later NoneNamed shows = absurd shows.2.2.3.3.2.0.0
result_later WrittenEarlier shows = absurd (omega (arith, shows.2.2.3.3.2.0.0.2.0.no_later.writers (x_reg 6)))
result_later ClampedStanding shows = absurd (omega (arith, shows.2.2.3.3.2.0.0.1.no_later.writers (x_reg 6)))

pub returns-clause-not_dominated : goal.returns-clause-not_dominated
returns-clause-not_dominated c = result_later
