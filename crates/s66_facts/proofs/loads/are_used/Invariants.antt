use Rattle.std.proofs.Common.{◌≡◌, true, drop}
use Rattle.s66_isa.specs.{every}
use Rattle.s66_moments.specs.{is_number, is_used}
use Rattle.s66_facts.specs.{ground_arcs}
use Rattle.s66_facts.proofs.loads.are_used.Given as goal

abbrev pub invariant-loop-n : goal.invariant-loop-n
invariant-loop-n l = record {
  numbers : every (is_number l.graph.problem) (drop l.n-index l.numbers) ≡ true;
  used : every (is_used l.graph.problem (ground_arcs l.graph) l.line l.kind l.time) (drop l.n-index l.numbers) ≡ every (is_used l.graph.problem (ground_arcs l.graph) l.line l.kind l.time) l.numbers;
}
