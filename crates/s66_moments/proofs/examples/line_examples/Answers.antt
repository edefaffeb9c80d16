use Rattle.s66_moments.proofs.WorkedLines.{from_start, between_two, until_free, two_copies, still, by_parcels, by_unit, other_way, ring, placed_total, over_placed, turned}
use Rattle.s66_moments.proofs.examples.line_examples.Goals as goal

pub returns : goal.returns
returns c = record {
  from_the_start = from_start;
  between_two_moments = between_two;
  until_free = until_free;
  from_the_issue_by_two_copies = two_copies;
  still_used = still;
  late_by_parcels = by_parcels;
  late_by_the_unit = by_unit;
  late_the_other_way = other_way;
  ring = ring;
  turned_by_a_prefix = turned;
  total_of_a_prefix = placed_total;
  over_what_is_placed = over_placed;
}
