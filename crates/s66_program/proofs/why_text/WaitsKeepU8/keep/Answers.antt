use Rattle.std.proofs.Common.{ℕ, ◌∙◌, ◌≡◌, ◌++◌, List, ap, ap₂, append_assoc}
use Rattle.s66_isa.specs.{Profile}
use Rattle.s66_line.specs.{instrs_of}
use Rattle.s66_time.specs.Ordered.{Ordered}
use Rattle.s66_time.specs.TimedOrder.{TimedOrder}
use Rattle.s66_answer.specs.{answer_in}
use Rattle.s66_program.specs.{best_reasons, waits_lines}
use Rattle.s66_program.proofs.why_text.WaitsKeepU8.keep.Goals as goal

pub time-timed-requires : goal.time-timed-requires
time-timed-requires c = ap (λ (o : Ordered). o.block) (c.order.ensures c.args.answer.strategy c.args.answer.profile.now c.args.answer.block.now c.requires)

pub returns : goal.returns
returns c =
    let strategy = c.args.answer.strategy in
    let p = c.args.answer.profile.now in
    let block = c.args.answer.block.now in
    let timed : c.time-timed.result ≡ record { problem = record { block = instrs_of block; profile = p }; numbers = (answer_in c.args.answer.found).order } =
    c.time-timed.ensures.value
    ∙ ap₂ (λ (q : Profile) (o : Ordered). record { problem = record { block = instrs_of block; profile = q }; numbers = o.numbers }) c.new-timer.ensures (c.order.ensures strategy p block c.requires)
    in
    let waits : TimedOrder → List ℕ = λ t. waits_lines c.args.self.now.text c.args.answer.number block t in
    let reasons = best_reasons strategy.search.rule p block (answer_in c.args.answer.found) in
    c.in_ok-push_best_reasons.ensures ∙ ap (λ xs. xs ++ reasons) c.in_ok-push_waits.ensures
    ∙ append_assoc c.args.parts.now.items (waits c.time-timed.result) reasons ∙ ap (λ (t : TimedOrder). c.args.parts.now.items ++ (waits t ++ reasons)) timed
