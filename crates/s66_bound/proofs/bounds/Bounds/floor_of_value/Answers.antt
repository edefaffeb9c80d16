use Rattle.std.proofs.Common.{length, sym, ap, arith, ◌∙◌}
use Rattle.s66_model.specs.{Problem, floor, floor_value}
use Rattle.s66_model.proofs.Floors.{floor-whole}
use Rattle.s66_time.specs.{problem_of}
use Rattle.s66_bound.proofs.ValueBounds.{whole-none, some-short, floor-bound}
use Rattle.s66_bound.proofs.bounds.Bounds.floor_of_value.Goals as goal

pub returns-then-count-eq0-clause-leaf : goal.returns-then-count-eq0-clause-leaf
returns-then-count-eq0-clause-leaf c =
    let t = c.args.clock.now in
    let b = problem_of t in
    let rest = c.remaining_numbers-rest.ensures in
    sym (floor-whole b t.numbers (whole-none b t.numbers rest.begins (omega (arith, ap length rest.numbers, c.count.ensures, c.if-count-eq0.true))))
    ∙ ap (λ (p : Problem). floor p t.numbers) (sym c.requires.same)

pub returns-then-count-eq0-clause-bound : goal.returns-then-count-eq0-clause-bound
returns-then-count-eq0-clause-bound c = λ rest legal. omega (arith, c.requires.value, floor-bound c.args.self.now c.args.clock.now.numbers rest legal)

pub floor_of_value-requires-clause-some : goal.floor_of_value-requires-clause-some
floor_of_value-requires-clause-some c =
    let t = c.args.clock.now in
    let rest = c.remaining_numbers-rest.ensures in
    some-short (problem_of t) t.numbers rest.begins (omega (arith, ap length rest.numbers, c.count.ensures, c.if-count-eq0.false))

pub floor_of_value-requires-clause-value : goal.floor_of_value-requires-clause-value
floor_of_value-requires-clause-value c =
    let t = c.args.clock.now in
    c.requires.value ∙ ap (λ (p : Problem). floor_value p t.numbers) c.requires.same

pub returns-clause-bound : goal.returns-clause-bound
returns-clause-bound c = λ rest legal.
    omega (arith, c.floor_of_value.ensures.value, c.requires.value, floor-bound c.args.self.now c.args.clock.now.numbers rest legal)
