use Rattle.std.proofs.Common.{◌+◌, ◌≡◌, ap, arith, get_or, length}
use Rattle.s66_isa.specs.{numbers}
use Rattle.s66_model.specs.{sum_remaining}
use Rattle.s66_model.proofs.Beginnings.{length-rising}
use Rattle.s66_time.specs.{problem_of}
use Rattle.s66_bound.proofs.WorkTables.{work_at, work-remains, work-most}
use Rattle.s66_bound.proofs.values.remaining_work.Goals as goal

-- what the block has is what is pushed and what remains
parts : (c : goal.After-worked) →
    get_or c.args.tables.now.works c.kind_number.result 0 ≡ c.worked.result + sum_remaining (problem_of c.args.clock.now).block c.args.clock.now.numbers (work_at (problem_of c.args.clock.now) c.args.kind)
parts c =
    let t = c.args.clock.now in
    work-remains (problem_of t) t.numbers c.args.tables.now.works c.args.kind (get_or c.args.tables.now.works c.kind_number.result 0) c.worked.result c.worked.ensures.begins c.requires.works
    (ap (λ k. get_or c.args.tables.now.works k 0) c.kind_number.ensures.value) c.worked.ensures.value

pub overflow_sub-result : goal.overflow_sub-result
overflow_sub-result c = omega (arith, parts c)

pub returns-clause-value : goal.returns-clause-value
returns-clause-value c = omega (arith, parts c)

pub returns-clause-at_most : goal.returns-clause-at_most
returns-clause-at_most c =
    let b = problem_of c.args.clock.now in
    omega (
      arith,
      ap (λ k. get_or c.args.tables.now.works k 0) c.kind_number.ensures.value,
      c.requires.works c.args.kind,
      work-most b c.args.kind (numbers b.block),
      length-rising (length b.block) 1,
      c.worked.ensures.few,
    )
