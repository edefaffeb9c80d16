use Rattle.std.proofs.Common.{ℕ, ◌<◌, Bool, length, sym, arith, ◌∙◌}
use Rattle.s66_moments.specs.{arcs_of, is_late_through}
use Rattle.s66_facts.specs.{Ground, known_of}
use Rattle.s66_facts.proofs.NumbersLeft.{some-here, some-later}
use Rattle.s66_facts.proofs.facts.Facts.is_some_late.Goals as goal

abbrev test : Ground → ℕ → ℕ → Bool
test g bound = is_late_through g.problem (arcs_of g.problem (known_of g)) bound

pub returns-then-is_late_through : goal.returns-then-is_late_through
returns-then-is_late_through c =
    let g : Ground = c.args.self.now in
    let i : ℕ = c.loop-position.position in
    let less : i < length g.problem.block = omega (arith, c.loop-position-test.true, c.count-position-end.ensures.value) in
    sym (some-here (test g c.args.bound) (length g.problem.block) i less (sym c.is_late_through.ensures ∙ c.if-is_late_through.true)) ∙ c.loop-position.invariant

pub loop-position-preserved : goal.loop-position-preserved
loop-position-preserved c =
    let g : Ground = c.args.self.now in
    let i : ℕ = c.loop-position.position in
    let less : i < length g.problem.block = omega (arith, c.loop-position-test.true, c.count-position-end.ensures.value) in
    sym (some-later (test g c.args.bound) (length g.problem.block) i less (sym c.is_late_through.ensures ∙ c.if-is_late_through.false)) ∙ c.loop-position.invariant
