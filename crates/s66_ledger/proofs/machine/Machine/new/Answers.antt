use Rattle.std.proofs.Common.{◌≡◌, ◌∙◌, arith, ap, [], refl, sym}
use Rattle.s66_isa.specs.{numbers}
use Rattle.s66_model.specs.{Problem, total_of, source_time, floor_value}
use Rattle.s66_line.specs.{instrs_of}
use Rattle.s66_time.specs.TimedOrder.{TimedOrder}
use Rattle.s66_ledger.proofs.Events.{kept-opening}
use Rattle.s66_ledger.proofs.machine.Machine.new.Goals as goal

pub invariant_of-result : goal.invariant_of-result
invariant_of-result c =
    let b : Problem = record { block = instrs_of c.block-block.result.now; profile = c.profile.result.now } in
    let own : c.args.walk.now.problem ≡ b = λ i. record { block = sym c.block-block.ensures i; profile = sym c.profile.ensures i } in
    let best : c.time_of-best.result ≡ record { problem = b; numbers = numbers b.block } = c.time_of-best.ensures ∙ ap (λ ns. record { problem = b; numbers = ns }) c.source.ensures.numbers in
    let floor : c.floor_value.result ≡ floor_value b [] = c.floor_value.ensures ∙ (ap (floor_value c.args.walk.now.problem) c.requires.first ∙ ap (λ p. floor_value p []) own) in
    let source : c.total.result ≡ source_time b = c.total.ensures.value ∙ ap (λ (t : TimedOrder). total_of t.problem t.numbers) best in
    kept-opening _ b c.args.budget c.loop.counter c.total.result c.time_of-best.result c.in_ok-table.table _ c.loop.allowances.items source best c.in_ok-table.ensures refl floor c.loop.invariant c.requires.budget (omega (arith, c.ranges.workers))
