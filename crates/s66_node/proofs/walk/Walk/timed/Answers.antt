use Rattle.std.proofs.Common.{◌≡◌, ◌∙◌, sym, ap, subst, List, true≢false}
use Rattle.s66_isa.specs.{Instr}
use Rattle.s66_model.specs.{IsLegal}
use Rattle.s66_model.proofs.LegalOrders.{order-legal}
use Rattle.s66_line.specs.{instrs_of}
use Rattle.s66_node.specs.Walked.{Walked}
use Rattle.s66_node.proofs.walk.Walk.timed.Goals as goal

pub unreachable-requires : goal.unreachable-requires
unreachable-requires c =
    let w = c.args.self.now in
    let block : w.problem.block ≡ instrs_of c.block-block.result.now = sym (ap (λ (x : Walked). x.problem.block) c.self.view_is) ∙ ap instrs_of (sym c.block-block.ensures) in
    let legal : IsLegal w.problem.block w.numbers = order-legal w.problem.block w.numbers (c.numbers.ensures.begins, c.requires) in
    true≢false (sym (c.in_default.ensures.taken.1 (subst (IsLegal (instrs_of c.block-block.result.now)) (sym c.numbers.ensures.value) (subst (λ (is : List Instr). IsLegal is w.numbers) block legal))))
