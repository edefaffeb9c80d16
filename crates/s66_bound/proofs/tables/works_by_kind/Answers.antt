use Rattle.std.proofs.Common.{◌+◌, ap, arith, get_or, length-set, ◌∙◌}
use Rattle.s66_isa.specs.{weigh, rising, kind_number}
use Rattle.s66_model.specs.{row_at}
use Rattle.s66_model.proofs.Beginnings.{length-rising}
use Rattle.s66_model.proofs.PointTimes.{good-at}
use Rattle.s66_bound.proofs.WorkTables.{work_at, works-step, work-most}
use Rattle.s66_bound.proofs.tables.works_by_kind.Goals as goal

pub overflow_add-works : goal.overflow_add-works
overflow_add-works c =
    let (b, are) = c.requires.known in
    let i = c.loop-place.place in
    let kind = (row_at b (i + 1)).kind in
    omega (
      arith,
      (are.each i c.index-costs-place-in-loop-place.result c.loop-place-test.true).work,
      (good-at b (i + 1)).hold.1,
      ap (λ k. get_or c.loop-place.works k 0) (c.kind_number-kind.ensures.value ∙ ap kind_number (are.each i c.index-costs-place.result c.loop-place-test.true).kind),
      c.loop-place.invariant.known b are kind,
      work-most b kind (rising i 1),
      length-rising i 1,
      c.requires.few,
    )

pub loop-place-preserved : goal.loop-place-preserved
loop-place-preserved c =
    let works = c.loop-place.works in
    let i = c.loop-place.place in
    let kind = c.kind_number-kind.result in
    let e = c.index-costs-place-in-loop-place.result in
    record {
      size = length-set works kind _ ∙ c.loop-place.invariant.size;
      known = λ b are.
          works-step b i kind (get_or c.args.costs.now i e).work works c.loop-place.invariant.size (c.loop-place.invariant.known b are)
          (c.kind_number-kind.ensures.value ∙ ap kind_number (are.each i c.index-costs-place.result c.loop-place-test.true).kind) (are.each i e c.loop-place-test.true).work;
    }

pub returns : goal.returns
returns c = λ b are kind.
    c.loop-place.invariant.known b are kind
    ∙ ap (λ k. weigh (work_at b kind) (rising k 1)) (omega (arith, c.loop-place-test.false, c.loop-place.auto.place-end, are.count))
