use Rattle.std.proofs.Common.{◌∙◌, sym, ap}
use Rattle.s66_isa.specs.{numbers_in}
use Rattle.s66_model.specs.{is_ready}
use Rattle.s66_line.specs.{Block, instrs_of}
use Rattle.s66_time.proofs.Readiness.{has-ready_same}
use Rattle.s66_test_search.proofs.walk.push_ready.Goals as goal

pub push-requires : goal.push-requires
push-requires c =
    let block = c.block.result.now in
    let pushed = c.args.clock.now.numbers in
    let n = c.args.n in
    ap (λ (b : Block). is_ready (instrs_of b) pushed n) (sym c.block.ensures)
    ∙ (sym (has-ready_same (instrs_of block) (numbers_in c.pushed.result) pushed (numbers_in c.ready.result) n c.ready.ensures c.pushed.ensures.value)
    ∙ (sym c.has-is_ready.ensures ∙ c.if-is_ready.true))
