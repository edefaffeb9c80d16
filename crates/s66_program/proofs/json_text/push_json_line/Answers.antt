use Rattle.std.proofs.Common.{rules, ℕ, List, ◌≡◌, ◌++◌, OnOk, subst}
use Rattle.serde_json.specs.Data.{null}
use Rattle.s66_line.specs.{instrs_of}
use Rattle.s66_time.specs.TimedOrder.{TimedOrder}
use Rattle.s66_views.specs.{json_line}
use Rattle.s66_program.specs.{entry_at, as_written}
use Rattle.s66_program.proofs.json_text.push_json_line.Goals as goal

pub returns-clause-line : goal.returns-clause-line
returns-clause-line c =
    let block = c.args.block.now in
    let n = c.args.number in
    let entry = entry_at c.args.entries.now n in
    let Line : List ℕ → TimedOrder → Type 0 = λ e t. OnOk c.push_written_line.result (c.push_written_line.new.out.items ≡ c.args.out.now.items ++ json_line n e block t null) in
    let written : c.time-written.result ≡ as_written c.args.timer.now (instrs_of block) = search rules in
    subst (λ (t : TimedOrder). Line entry t) written (subst (λ (e : List ℕ). Line e c.time-written.result) c.entry_at.ensures c.push_written_line.ensures)
