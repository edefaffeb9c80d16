use Rattle.std.proofs.Common.{◌≡◌, arith, ap, length, take, refl, sym, subst}
use Rattle.std.proofs.Math.Seq.{take-length}
use Rattle.s66_model.specs.{IsComplete}
use Rattle.s66_time.proofs.LongestBeginning.{beginning-few}
use Rattle.s66_node.specs.Walked.{Walked}
use Rattle.s66_node.proofs.Schedules.{push-goes, none-ready}
use Rattle.s66_node.proofs.schedule.schedule_rest.Goals as goal

pub loop-n-init : goal.loop-n-init
loop-n-init c = record { same = refl; begins = c.numbers.ensures.begins; more = omega arith; continues = take-length c.args.walk.now.numbers }

pub loop-n-smaller : goal.loop-n-smaller
loop-n-smaller c =
    (push-goes c.args.walk.now c.loop-n.walk c.first_ready.new.walk c.push.new.self c.in-Some.n c.loop-n.invariant c.in-Some.ensures.ready c.in-Some.ensures.same c.push.ensures).1

pub loop-n-preserved : goal.loop-n-preserved
loop-n-preserved c =
    (push-goes c.args.walk.now c.loop-n.walk c.first_ready.new.walk c.push.new.self c.in-Some.n c.loop-n.invariant c.in-Some.ensures.ready c.in-Some.ensures.same c.push.ensures).0

pub returns-clause-complete : goal.returns-clause-complete
returns-clause-complete c =
    let w = c.loop-n.walk in
    subst (λ (x : Walked). IsComplete x.problem.block x.numbers) (sym c.in_default.ensures.same) (none-ready w.problem.block w.numbers c.loop-n.invariant.begins c.in_default.ensures.none)

pub returns-clause-continues : goal.returns-clause-continues
returns-clause-continues c =
    let ns = c.args.walk.now.numbers in
    subst (λ (x : Walked). take (length ns) x.numbers ≡ ns) (sym c.in_default.ensures.same) c.loop-n.invariant.continues

pub prove-unreachable-requires : goal.prove-unreachable-requires
prove-unreachable-requires c =
    omega (arith, c.if-prove.true, c.numbers.ensures.few, ap length c.numbers.ensures.value, beginning-few c.args.walk.now.problem.block c.args.walk.now.numbers c.numbers.ensures.begins)
