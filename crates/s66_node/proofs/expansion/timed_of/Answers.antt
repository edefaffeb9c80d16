use Rattle.std.proofs.Common.{◌≡◌, Some, refl, sym, subst, rules}
use Rattle.s66_model.specs.{Problem, whole_orders}
use Rattle.s66_line.specs.{instrs_of}
use Rattle.s66_time.specs.TimedOrder.{TimedOrder}
use Rattle.s66_node.specs.{IsBestTimed, IsLeast}
use Rattle.s66_node.proofs.Leasts.{least-best}
use Rattle.s66_node.proofs.expansion.timed_of.Goals as goal

pub returns-in_ok-new-in-Ok : goal.returns-in_ok-new-in-Ok
returns-in_ok-new-in-Ok c =
    λ prefix tree h.
    let b : Problem = record { block = instrs_of c.args.block.now; profile = c.args.profile.now } in
    let best = least-best b (whole_orders prefix tree) c.in-Some.least (subst (IsLeast b (whole_orders prefix tree)) c.in-Some.is h) in
    let timed : c.in_ok-new-in-Ok.field-0.value ≡ record { problem = b; numbers = c.in-Some.least.numbers.items } = search rules in
    subst (λ (t : TimedOrder). IsBestTimed b prefix tree (Some t)) (sym timed) (refl, best)
