use Rattle.std.proofs.Common.{map, get_or, sym, ap, ◌∙◌}
use Rattle.s66_isa.specs.{every}
use Rattle.s66_moments.specs.{use_time, is_number, use_of, kind_of_load}
use Rattle.s66_facts.specs.{ground_arcs}
use Rattle.s66_facts.proofs.LoadTaken.{number-at, unused}
use Rattle.s66_facts.proofs.loads.are_used.Goals as goal

pub is_used-requires-clause-head : goal.is_used-requires-clause-head
is_used-requires-clause-head c =
    let ns = c.as_slice-numbers.result.now in
    let is_n = number-at c.args.graph.now.problem ns c.loop-n.n-index c.loop-n.invariant.numbers c.loop-n-test.true in
    rw c.times_at-head.ensures (c.requires.heads (get_or ns c.loop-n.n-index 0) is_n)

pub is_used-requires-clause-tail : goal.is_used-requires-clause-tail
is_used-requires-clause-tail c =
    let ns = c.as_slice-numbers.result.now in
    let is_n = number-at c.args.graph.now.problem ns c.loop-n.n-index c.loop-n.invariant.numbers c.loop-n-test.true in
    rw c.times_at-tail.ensures (c.requires.tails (get_or ns c.loop-n.n-index 0) is_n)

pub returns-then-not-are_numbers : goal.returns-then-not-are_numbers
returns-then-not-are_numbers c =
    let g = c.args.graph.now in
    let ns = c.args.line.now.numbers.items in
    let kind = kind_of_load g.problem ns in
    sym (unused g.problem (ground_arcs g) c.args.line.now kind (use_time g.problem kind (map (use_of g.problem) ns)) ns
    (sym (ap (every (is_number g.problem)) c.as_slice-numbers.ensures.value) ∙ (sym c.are_numbers.ensures ∙ c.if-not-are_numbers.true)))
