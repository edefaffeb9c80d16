use Rattle.s66_program.proofs.OrderCompared.{compared-accepted, compared-done, order-compared}
use Rattle.s66_program.proofs.order_laws.compared_law.Goals as goal

pub returns : goal.returns
returns c = record {
  compared = λ strategy p q style only source texts text status again is other. order-compared strategy p q style only source text status texts again is other;
  accepted = compared-accepted;
  done = compared-done;
}
