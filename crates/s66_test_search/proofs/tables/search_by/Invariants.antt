use Rattle.std.proofs.Common.{◌≡◌}
use Rattle.s66_isa.specs.{standard}
use Rattle.s66_line.specs.{instrs_of}
use Rattle.s66_test_search.proofs.tables.search_by.Given as goal

abbrev pub invariant-loop : goal.invariant-loop
invariant-loop g l = record {
  workers : l.ledger.workers ≡ 1;
  marks : l.marks.problem ≡ record { block = instrs_of l.block; profile = standard };
}
