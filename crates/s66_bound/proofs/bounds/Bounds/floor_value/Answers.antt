use Rattle.std.proofs.Common.{length, sym, ap, arith, ◌∙◌}
use Rattle.s66_model.specs.{Problem, IsComplete, floor_value}
use Rattle.s66_time.specs.{problem_of}
use Rattle.s66_bound.proofs.ValueBounds.{whole-none, some-short, floor-whole, floor-bound}
use Rattle.s66_bound.proofs.bounds.Bounds.floor_value.Goals as goal

pub returns-then-count-eq0-clause-value : goal.returns-then-count-eq0-clause-value
returns-then-count-eq0-clause-value c =
    let t = c.args.clock.now in
    let b = problem_of t in
    let rest = c.remaining_numbers-rest.ensures in
    let whole : IsComplete b.block t.numbers = whole-none b t.numbers rest.begins (omega (arith, ap length rest.numbers, c.count.ensures, c.if-count-eq0.true)) in
    c.total.ensures.value ∙ (sym (floor-whole b t.numbers whole) ∙ ap (λ (p : Problem). floor_value p t.numbers) (sym c.requires.same))

pub returns-then-count-eq0-clause-bound : goal.returns-then-count-eq0-clause-bound
returns-then-count-eq0-clause-bound c = λ rest legal.
    let t = c.args.clock.now in
    let b = problem_of t in
    let left = c.remaining_numbers-rest.ensures in
    let whole : IsComplete b.block t.numbers = whole-none b t.numbers left.begins (omega (arith, ap length left.numbers, c.count.ensures, c.if-count-eq0.true)) in
    omega (arith, c.total.ensures.value, floor-whole b t.numbers whole, ap (λ (p : Problem). floor_value p t.numbers) c.requires.same, floor-bound c.args.self.now t.numbers rest legal)

pub floor_value_of-requires-clause-some : goal.floor_value_of-requires-clause-some
floor_value_of-requires-clause-some c =
    let t = c.args.clock.now in
    let rest = c.remaining_numbers-rest.ensures in
    some-short (problem_of t) t.numbers rest.begins (omega (arith, ap length rest.numbers, c.count.ensures, c.if-count-eq0.false))

pub returns-clause-bound : goal.returns-clause-bound
returns-clause-bound c = λ rest legal.
    let t = c.args.clock.now in
    omega (arith, c.floor_value_of.ensures, ap (λ (p : Problem). floor_value p t.numbers) c.requires.same, floor-bound c.args.self.now t.numbers rest legal)
