use Rattle.std.proofs.Common.{◌≡◌, ◌∙◌, true≢false, List, ap, sym, subst, arith, is_ok}
use Rattle.s66_isa.specs.{Instr}
use Rattle.s66_model.specs.{Problem, total_of, IsLegal}
use Rattle.s66_line.specs.{instrs_of}
use Rattle.s66_time.specs.TimedOrder.{TimedOrder}
use Rattle.s66_ledger.proofs.ledger.Ledger.offer_numbers.Goals as goal

pub unreachable-requires : goal.unreachable-requires
unreachable-requires c =
    let here : IsLegal (instrs_of c.block-block.result.now) c.args.numbers.now = subst (λ (is : List Instr). IsLegal is c.args.numbers.now) (sym c.block-block.ensures) c.requires.legal in
    absurd (true≢false (sym (c.new.ensures.taken.1 here) ∙ ap is_ok c.in_default.is))

pub returns-clause-at_most : goal.returns-clause-at_most
returns-clause-at_most c =
    let b : Problem = c.args.self.now.problem in
    let timed : c.time_of-timed.result ≡ record { problem = b; numbers = c.args.numbers.now } =
    c.time_of-timed.ensures
    ∙ (ap (λ (is : List Instr). record { problem = record { block = is; profile = c.profile.result.now }; numbers = c.in-Ok.order.numbers }) c.block-block.ensures
    ∙ (ap (λ p. record { problem = record { block = b.block; profile = p }; numbers = c.in-Ok.order.numbers }) c.profile.ensures
    ∙ ap (λ ns. record { problem = b; numbers = ns }) c.in-Ok.ensures.ok.1)) in
    let own = ap (λ (t : TimedOrder). t.problem) timed in
    let total : total_of c.time_of-timed.result.problem c.time_of-timed.result.numbers ≡ total_of b c.args.numbers.now = ap (λ (t : TimedOrder). total_of t.problem t.numbers) timed in
    omega (arith, c.in_ok-offer_order.ensures.at_most own, total)
