use Rattle.std.proofs.Common.{◌++◌, ◌∙◌, List, ap, ap₂, arith, length, reverse, sym}
use Rattle.s66_why.specs.{Stretch, first_stretch, second_stretch, third_stretch}
use Rattle.s66_why.proofs.Lines.{parts-none, parts-more}
use Rattle.s66_why.proofs.Writes.{short-latency}
use Rattle.s66_why.proofs.waits.waits_of.Goals as goal

pub loop-write-init : goal.loop-write-init
loop-write-init c =
    let s = reverse c.args.earlier.now in
    let p = c.args.point.now in
    record {
      items =
          c.add-2.ensures.items ∙ ap₂ (λ (xs ys : List Stretch). xs ++ ys) (c.add.ensures.items ∙ ap₂ (λ (xs ys : List Stretch). xs ++ ys) c.new-waits.ensures c.first_stretch.ensures) c.second_stretch.ensures
          ∙ sym (parts-none (third_stretch s p) (first_stretch s p) (second_stretch s p) c.as_slice-write-items.result.now);
      few = omega (arith, c.add.ensures.few, c.add-2.ensures.few, ap (λ (xs : List Stretch). length xs) c.new-waits.ensures);
    }

pub third_stretch-requires : goal.third_stretch-requires
third_stretch-requires c =
    short-latency _ c.as_slice-write-items.result.now c.loop-write.write-index c.write-item.result c.as_slice-write-items.ensures.value c.loop-write-test.true c.write-item.is c.point-inside.invariant.latencies

pub loop-write-preserved : goal.loop-write-preserved
loop-write-preserved c =
    let s = reverse c.args.earlier.now in
    let p = c.args.point.now in
    let ws = c.as_slice-write-items.result.now in
    let i = c.loop-write.write-index in
    let w = c.write-item.result in
    record {
      items =
          c.add-in-loop-write.ensures.items ∙ ap₂ (λ (xs ys : List Stretch). xs ++ ys) c.loop-write.invariant.items c.third_stretch.ensures
          ∙ sym (parts-more (third_stretch s p) (first_stretch s p) (second_stretch s p) ws i w c.loop-write-test.true c.write-item.is);
      few = omega (arith, c.add-in-loop-write.ensures.few, c.loop-write.invariant.few);
    }
