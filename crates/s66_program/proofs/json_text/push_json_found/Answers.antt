use Rattle.std.proofs.Common.{rules, ◌≡◌, ◌++◌, OnOk, subst}
use Rattle.s66_line.specs.{instrs_of}
use Rattle.s66_time.specs.TimedOrder.{TimedOrder}
use Rattle.s66_views.specs.{found_data, json_line}
use Rattle.s66_program.specs.{as_written}
use Rattle.s66_program.proofs.json_text.push_json_found.Goals as goal

pub returns-clause-line : goal.returns-clause-line
returns-clause-line c =
    let block = c.args.block.now in
    let p = c.args.timer.now in
    let at : TimedOrder = record { problem = record { block = instrs_of block; profile = p }; numbers = c.args.order.now.numbers } in
    let Line : TimedOrder → TimedOrder → Type 0 = λ t f. OnOk c.push_found_line.result
    (c.push_found_line.new.out.items ≡ c.args.out.now.items ++ json_line c.args.number c.args.entry.now block t (found_data f c.args.bound c.args.splits)) in
    let written : c.time-written.result ≡ as_written p (instrs_of block) = search rules in
    let found : c.time-found.result ≡ at = search rules in
    subst (λ (t : TimedOrder). Line t at) written (subst (λ (f : TimedOrder). Line c.time-written.result f) found c.push_found_line.ensures)
