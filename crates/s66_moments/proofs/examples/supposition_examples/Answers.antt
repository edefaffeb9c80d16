use Rattle.std.proofs.Common.{refl}
use Rattle.s66_isa.specs.{row}
use Rattle.s66_model.specs.{conflict, issue_of, start_of, point, standard_problem}
use Rattle.s66_moments.specs.{three_free_adds, second_by_lines}
use Rattle.s66_moments.proofs.SupposedLines.{after-stands}
use Rattle.s66_moments.proofs.examples.supposition_examples.Goals as goal

pub returns-clause-founded : goal.returns-clause-founded
unfolding row conflict issue_of start_of point
returns-clause-founded c = (after-stands (standard_problem three_free_adds) 15 second_by_lines refl).0.0
