use Rattle.std.proofs.Common.{ℕ, ◌∙◌, List, arith, ap}
use Rattle.s66_model.specs.{Problem, points_of, next}
use Rattle.s66_node.specs.Walked.{Walked}
use Rattle.s66_node.proofs.Schedules.{next-push}
use Rattle.s66_node.proofs.schedule.issue_of.Goals as goal

pub overflow_sub-result : goal.overflow_sub-result
overflow_sub-result c =
    let w = c.args.walk.now in
    let pushed = c.next-next.ensures.value ∙ (ap (λ (p : Problem). next (points_of p c.clock.result.now.numbers)) c.clock.ensures.problem ∙ ap (λ (ns : List ℕ). next (points_of c.push.new.self.problem ns)) c.clock.ensures.numbers) in
    omega (arith, pushed, ap (λ (x : Walked). next (points_of x.problem x.numbers)) c.push.ensures, next-push w.problem w.numbers c.args.n, c.parcels-parcels.ensures)
