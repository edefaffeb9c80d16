use Rattle.std.proofs.Common.{ℕ, ◌≡◌, ◌+◌, ◌-◌, ◌<◌, ◌++◌, ◌∙◌, Bool, List, Vec, ap, sym, length, map, arith, append-nil, filter, Global}
use Rattle.s66_isa.specs.{rising}
use Rattle.s66_model.specs.{next, is_remaining}
use Rattle.s66_cert.specs.{document_of}
use Rattle.s66_reasons.specs.{Reason, rows_text, last_row}
use Rattle.s66_reasons.proofs.Texts.{filter-less, filter-more}
use Rattle.s66_reasons.proofs.parcels.push_parcels.Goals.{then-is_remaining+in_ok-push_last, else-is_remaining}
use Rattle.s66_reasons.proofs.parcels.push_parcels.Goals as goal

pub loop-position-init : goal.loop-position-init
loop-position-init c =
    let q = c.args.prefix.now in
    let count : ℕ = length q.problem.block in
    let all : count - 0 ≡ count = omega arith in
    ap (λ k. c.args.out.now.items ++ rows_text (map (last_row (document_of c.args.document.now) q.numbers) (filter (is_remaining q.problem.block q.numbers) (rising k 1)))) all

pub push_last-requires-clause-next : goal.push_last-requires-clause-next
push_last-requires-clause-next c = c.next-next.ensures.value ∙ ap next c.points.ensures.value

pub loop-position-preserved : goal.loop-position-preserved
loop-position-preserved c =
    let q = c.args.prefix.now in
    let count : ℕ = length q.problem.block in
    let p = c.loop-position.position in
    let row : ℕ → Reason = last_row (document_of c.args.document.now) q.numbers in
    let test : ℕ → Bool = is_remaining q.problem.block q.numbers in
    let within : p < count = omega (arith, c.loop-position-test.true, c.count-position-end.ensures.value) in
    let rest : List ℕ = rows_text (map row (filter test (rising (count - (p + 1)) (p + 1 + 1)))) in
    elim c.if-is_remaining.branch [
      | then-is_remaining+in_ok-push_last w ↦
          filter-more row test count p within _ _ (sym c.is_remaining.ensures ∙ w.if-is_remaining.true) (ap (λ (v : Vec ℕ Global). v.items) w.out-is ∙ w.in_ok-push_last.ensures)
          ∙ c.loop-position.invariant
      | else-is_remaining w ↦
          ap (λ (v : Vec ℕ Global). v.items ++ rest) w.out-is
          ∙ filter-less row test count p within c.loop-position.out.items (sym c.is_remaining.ensures ∙ w.if-is_remaining.false) ∙ c.loop-position.invariant
    ]

pub returns : goal.returns
returns c =
    let q = c.args.prefix.now in
    let count : ℕ = length q.problem.block in
    let p = c.loop-position.position in
    let over : count - p ≡ 0 = omega (arith, c.loop-position-test.false, c.count-position-end.ensures.value) in
    sym (append-nil c.loop-position.out.items)
    ∙ sym (ap (λ k. c.loop-position.out.items ++ rows_text (map (last_row (document_of c.args.document.now) q.numbers) (filter (is_remaining q.problem.block q.numbers) (rising k (p + 1))))) over)
    ∙ c.loop-position.invariant
