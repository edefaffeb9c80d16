use Rattle.std.proofs.Common.{◌+◌, ◌≡◌, ◌≤◌, ◌∙◌, ap, subst, sym, arith, get_or, set, length, take, length-set}
use Rattle.s66_isa.specs.{weigh, Row, kind_number, all_kinds}
use Rattle.s66_time.specs.{kept_in}
use Rattle.s66_time.proofs.KeptUnits.{IsCounted, sum-more, counted-more, counted-full}
use Rattle.s66_time.proofs.mark_shape.MarkShape.of.Goals.{then-from-at, else-from-at}
use Rattle.s66_time.proofs.mark_shape.MarkShape.of.Goals as goal

pub loop-row-preserved : goal.loop-row-preserved
loop-row-preserved c =
    let rows = c.args.rows.now in
    let copies = c.args.copies.now.counts in
    let kept = c.loop-row.kept in
    let r = c.row-item.result in
    let i = c.loop-row.row-index in
    let known = c.loop-row.invariant in
    let kind : c.kind_number-kind.result ≡ kind_number r.kind = c.kind_number-kind.ensures.value ∙ ap (λ (x : Row). kind_number x.kind) c.row.view_is in
    let own : c.from.result ≡ kept_in kept r.kind = omega (arith, c.from.ensures, ap (λ n. get_or kept n 0) kind) in
    let all : c.at.result ≡ kept_in copies r.kind = omega (arith, c.at.ensures.value, ap (λ (x : Row). get_or copies (kind_number x.kind) 0) c.row.view_is) in
    elim c.if-from-at.branch [
      | then-from-at w ↦
          let more : set kept (kind_number r.kind) (kept_in kept r.kind + 1) ≡ c.if-from-at.kept = sym (w.kept-is ∙ ap (λ n. set kept n (get_or kept n 0 + 1)) kind) in
          record {
            counted = subst (λ xs. IsCounted copies xs (take (i + 1) rows)) more (counted-more copies kept rows i r c.loop-row-test.true c.row-item.is known.counted known.size (omega (arith, own, all, w.if-from-at.true)));
            size = sym (ap length more) ∙ length-set kept (kind_number r.kind) (kept_in kept r.kind + 1) ∙ known.size;
            few = subst (λ xs. weigh (kept_in xs) all_kinds ≤ i + 1) more (omega (arith, sum-more r.kind kept known.size, known.few));
          }
      | else-from-at w ↦
          record {
            counted = subst (λ xs. IsCounted copies xs (take (i + 1) rows)) (sym w.kept-is) (counted-full copies kept rows i r c.loop-row-test.true c.row-item.is known.counted (omega (arith, own, all, w.if-from-at.false)));
            size = ap length w.kept-is ∙ known.size;
            few = subst (λ xs. weigh (kept_in xs) all_kinds ≤ i + 1) (sym w.kept-is) (omega (arith, known.few));
          }
    ]
