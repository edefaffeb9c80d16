use Rattle.std.proofs.Common.{◌<◌, All}
use Rattle.s66_answer.proofs.share.make_share.Given as goal

abbrev pub invariant-loop : goal.invariant-loop
invariant-loop g l = All (λ m. (m.number < l.count) × g.W.Task.gives l.task m.number m.value) l.share.items
