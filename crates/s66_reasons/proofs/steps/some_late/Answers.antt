use Rattle.std.proofs.Common.{ℕ, ◌<◌, ◌≤◌, ◌∙◌, arith, length, sym}
use Rattle.s66_moments.specs.{arcs_of, Network}
use Rattle.s66_facts.specs.{Ground, known_of}
use Rattle.s66_reasons.proofs.StepTexts.{late-here, late-later, late-none}
use Rattle.s66_reasons.proofs.steps.some_late.Goals as goal

abbrev arcs : Ground → Network
arcs g = arcs_of g.problem (known_of g)

pub returns-then-is_late_through-clause-value : goal.returns-then-is_late_through-clause-value
returns-then-is_late_through-clause-value c =
    let g : Ground = c.args.facts.now in
    let i : ℕ = c.loop-position.position in
    let within : i < length g.problem.block = omega (arith, c.loop-position-test.true, c.count-position-end.ensures.value) in
    sym (late-here g.problem (arcs g) c.args.bound (length g.problem.block) i within (sym c.is_late_through.ensures ∙ c.if-is_late_through.true)) ∙ c.loop-position.invariant

pub loop-position-preserved : goal.loop-position-preserved
loop-position-preserved c =
    let g : Ground = c.args.facts.now in
    let i : ℕ = c.loop-position.position in
    let within : i < length g.problem.block = omega (arith, c.loop-position-test.true, c.count-position-end.ensures.value) in
    sym (late-later g.problem (arcs g) c.args.bound (length g.problem.block) i within (sym c.is_late_through.ensures ∙ c.if-is_late_through.false)) ∙ c.loop-position.invariant

pub returns-clause-value : goal.returns-clause-value
returns-clause-value c =
    let g : Ground = c.args.facts.now in
    let i : ℕ = c.loop-position.position in
    let past : length g.problem.block ≤ i = omega (arith, c.loop-position-test.false, c.count-position-end.ensures.value) in
    sym (late-none g.problem (arcs g) c.args.bound (length g.problem.block) i past) ∙ c.loop-position.invariant
