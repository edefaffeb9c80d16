use Rattle.std.proofs.Common.{ℕ, ◌+◌, ◌∙◌, ap, cond, max}
use Rattle.s66_isa.specs.{greatest, Row, memory_pair}
use Rattle.s66_model.specs.{Point, done_of}
use Rattle.s66_checker.proofs.Issues.{start-looked}
use Rattle.s66_checker.proofs.replay.timing.start.Goals as goal

pub returns : goal.returns
returns c b issue =
    let xs = c.args.past.now in
    let done = c.registers_done-done.ensures ∙ ap (greatest (λ x. done_of xs x)) c.as_slice.ensures.value ∙ ap (λ (r : Row). greatest (λ x. done_of xs x) r.reads) c.row.view_is in
    let wait = c.memory_wait.ensures ∙ ap (λ (r : Row). greatest (λ (q : Point). cond {A = ℕ} (memory_pair q.row.memory r.memory) (q.start + 1) 0) xs) c.row.view_is in
    c.max-2.ensures ∙ ap (max c.args.issue) c.max.ensures
    ∙ start-looked b xs c.args.row.now c.args.issue c.registers_done-done.result c.memory_wait.result c.requires issue done wait
