use Rattle.std.proofs.Common.{rules, arith, true≢false}
use Rattle.s66_isa.specs.{Shift, row, x_reg}
use Rattle.s66_model.specs.{issue_of, start_of, point, conflict}
use Rattle.s66_model.proofs.dominance.dominance_examples.Goals as goal

pub returns : goal.returns
unfolding row issue_of start_of point conflict
returns c = record {
  waits_in_either_order = search rules;
  waits_clamped = search rules;
  waits_the_other_way = λ h. absurd (omega (arith, h.no_later.writers (x_reg 5)));
  result_later = λ h. absurd (omega (arith, h.0.no_later.writers (x_reg 6)));
  result_later_clamped = λ h. absurd (omega (arith, h.no_later.writers (x_reg 6)));
  another_set = λ h. true≢false (h.same_set 3);
  itself = search rules;
  free_by_the_slot = search rules;
  free_later_as_written = λ h. absurd (omega (arith, h.0.no_later.units Shift 0 (omega arith)));
  done_by_the_slot = search rules;
  done_later_as_written = λ h. absurd (omega (arith, h.0.no_later.writers (x_reg 1)));
  done_after_the_slot = λ h. absurd (omega (arith, h.no_later.writers (x_reg 3)));
  total_after_it = search rules;
  total_of_the_other = search rules;
  sooner_slot = search rules;
  store_by_the_slot = search rules;
  read_at_the_slot = search rules;
  half_a_word_apart = λ h. absurd (omega (arith, h.no_later.phase));
  a_parcel_apart = λ h. absurd (omega (arith, h.no_later.phase));
  total_with_a_gap = search rules;
  total_without_one = search rules;
}
