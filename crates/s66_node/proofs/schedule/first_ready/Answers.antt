use Rattle.std.proofs.Common.{◌≡◌, ◌∙◌, true, sym, subst}
use Rattle.s66_isa.specs.{numbers_in}
use Rattle.s66_model.specs.{is_ready}
use Rattle.s66_node.specs.Walked.{Walked}
use Rattle.s66_node.proofs.Schedules.{all-ready, taken-ready}
use Rattle.s66_node.proofs.schedule.first_ready.Goals as goal

pub of-best-requires : goal.of-best-requires
of-best-requires c =
    let w = c.args.walk.now in
    let ready = taken-ready w.problem.block w.numbers (numbers_in c.ready-rest.result) (numbers_in c.pop_first.new.self) c.in_ok-pop_first.field-0 c.in_ok-pop_first.ensures.some (all-ready w.problem.block w.numbers _ c.ready-rest.ensures.ready) in
    rw c.ready-rest.ensures.same ready.0

pub loop-number-init : goal.loop-number-init
loop-number-init c =
    let w = c.args.walk.now in
    let ready = taken-ready w.problem.block w.numbers (numbers_in c.ready-rest.result) (numbers_in c.pop_first.new.self) c.in_ok-pop_first.field-0 c.in_ok-pop_first.ensures.some (all-ready w.problem.block w.numbers _ c.ready-rest.ensures.ready) in
    record { same = c.of-best.ensures.same ∙ c.ready-rest.ensures.same; best = rw c.of-best.ensures.number ready.0; rest = ready.1 }

pub of-other-requires : goal.of-other-requires
of-other-requires c =
    let w = c.args.walk.now in
    let ready = taken-ready w.problem.block w.numbers (numbers_in c.loop-number.rest) (numbers_in c.pop_first-in-loop-number.new.self) c.in-Some.number c.in-Some.ensures.some c.loop-number.invariant.rest in
    subst (λ (x : Walked). is_ready x.problem.block x.numbers c.in-Some.number ≡ true) (sym c.loop-number.invariant.same) ready.0

pub loop-number-preserved-then-is_better_than : goal.loop-number-preserved-then-is_better_than
loop-number-preserved-then-is_better_than c =
    let w = c.args.walk.now in
    let ready = taken-ready w.problem.block w.numbers (numbers_in c.loop-number.rest) (numbers_in c.pop_first-in-loop-number.new.self) c.in-Some.number c.in-Some.ensures.some c.loop-number.invariant.rest in
    record { same = c.of-other.ensures.same ∙ c.loop-number.invariant.same; best = rw c.of-other.ensures.number ready.0; rest = ready.1 }

pub loop-number-preserved : goal.loop-number-preserved
loop-number-preserved c =
    let w = c.args.walk.now in
    record {
      same = c.of-other.ensures.same ∙ c.loop-number.invariant.same;
      best = c.loop-number.invariant.best;
      rest = (taken-ready w.problem.block w.numbers (numbers_in c.loop-number.rest) (numbers_in c.pop_first-in-loop-number.new.self) c.in-Some.number c.in-Some.ensures.some c.loop-number.invariant.rest).1;
    }
