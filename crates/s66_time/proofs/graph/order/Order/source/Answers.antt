use Rattle.std.proofs.Common.{◌≡◌, ◌+◌, ◌++◌, ◌∷◌, [], sym, ◌∙◌, ap, arith, subst, length}
use Rattle.s66_isa.specs.{rising, numbers}
use Rattle.s66_model.specs.{IsLegal}
use Rattle.s66_model.proofs.Beginnings.{source-legal}
use Rattle.s66_model.proofs.MeaningOfOrders.{legal-meaning}
use Rattle.s66_line.specs.{instrs_of}
use Rattle.s66_time.proofs.OrderNumbers.{rising-more}
use Rattle.s66_time.proofs.graph.order.Order.source.Goals.{After-instrs_of}
use Rattle.s66_time.proofs.graph.order.Order.source.Goals as goal

pub loop-position-preserved : goal.loop-position-preserved
loop-position-preserved c =
    let i = c.loop-position.position in
    record { order = c.push.ensures.items ∙ ap (λ xs. xs ++ (i + 1) ∷ []) c.loop-position.invariant.order ∙ sym (rising-more i); count = omega arith }

legal : (c : After-instrs_of) → IsLegal c.instrs_of.result.items c.loop-position.order.items
legal c =
    let counted : c.loop-position.order.items ≡ numbers (instrs_of c.args.block.now) = c.loop-position.invariant.order ∙ ap (λ n. rising n 1) (omega arith) in
    subst (λ xs. IsLegal xs c.loop-position.order.items) (sym c.instrs_of.ensures)
    (subst (IsLegal (instrs_of c.args.block.now)) (sym counted) (source-legal (instrs_of c.args.block.now)))

pub invariant_of-result : goal.invariant_of-result
invariant_of-result c = record {
  legal = legal c;
  meaning = legal-meaning c.instrs_of.result.items c.loop-position.order.items (legal c);
  few = omega (arith, ap length c.instrs_of.ensures);
}

pub returns-clause-legal : goal.returns-clause-legal
returns-clause-legal c = legal c
