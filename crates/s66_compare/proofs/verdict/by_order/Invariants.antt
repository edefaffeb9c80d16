use Rattle.std.proofs.Common.{ℕ, ◌≡◌, [], drop, take}
use Rattle.s66_isa.specs.{has, numbers_in}
use Rattle.s66_line.specs.{instrs_of}
use Rattle.s66_compare.specs.{by_order, kept_verdict}
use Rattle.s66_compare.proofs.verdict.by_order.Given as goal

abbrev pub invariant-loop-number : goal.invariant-loop-number
invariant-loop-number l = record {
  all : by_order (instrs_of l.old) (kept_verdict (instrs_of l.old) l.order) (take l.number-index l.order) (drop l.number-index l.order) ≡ by_order (instrs_of l.old) (kept_verdict (instrs_of l.old) l.order) [] l.order;
  before : (m : ℕ) → has m (numbers_in l.before) ≡ has m (take l.number-index l.order);
}
