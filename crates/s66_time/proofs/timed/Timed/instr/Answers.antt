use Rattle.std.proofs.Common.{ap, sym, ◌∙◌, get_or}
use Rattle.s66_isa.specs.{instr_at, row}
use Rattle.s66_time.specs.TimedOrder.{TimedOrder}
use Rattle.s66_time.proofs.Positions.{row-at}
use Rattle.s66_time.proofs.timed.Timed.instr.Goals as goal

pub returns : goal.returns
returns c =
    ap (row c.args.self.now.problem.profile) (c.instr.ensures ∙ ap (λ ns. instr_at c.self.inside.order.block (get_or ns c.args.position 0)) c.numbers.ensures.value)
    ∙ ap (λ (t : TimedOrder). row c.args.self.now.problem.profile (instr_at t.problem.block (get_or t.numbers c.args.position 0))) c.self.view_is
    ∙ sym (row-at c.args.self.now c.args.position c.requires)
