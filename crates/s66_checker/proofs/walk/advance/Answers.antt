use Rattle.std.proofs.Common.{◌∙◌}
use Rattle.s66_model.proofs.Later.{next-ready}
use Rattle.s66_checker.proofs.TreeWalk.{next-taken, none-taken}
use Rattle.s66_checker.proofs.walk.advance.Goals as goal

pub push-requires : goal.push-requires
push-requires c =
    let p = c.pop.new.self in
    next-ready p.problem.block p.numbers c.in-Some.last c.in-Some-next_ready.next c.in-Some-next_ready.ensures

pub returns-in-Some-next_ready-clause-next : goal.returns-in-Some-next_ready-clause-next
returns-in-Some-next_ready-clause-next c =
    next-taken c.args.prefix.now.problem c.loop-last.prefix.numbers c.pop.new.self c.in-Some.last (c.pop.ensures.problem ∙ c.loop-last.invariant.problem) c.in-Some.ensures.some c.push.new.self c.in-Some-next_ready.next c.push.ensures c.in-Some-next_ready.ensures
    ∙ c.loop-last.invariant.rest

pub loop-last-preserved : goal.loop-last-preserved
loop-last-preserved c =
    let same = c.pop.ensures.problem ∙ c.loop-last.invariant.problem in
    record {
      problem = same;
      rest = none-taken c.args.prefix.now.problem c.loop-last.prefix.numbers c.pop.new.self c.in-Some.last same c.in-Some.ensures.some c.in_default-next_ready.ensures ∙ c.loop-last.invariant.rest;
    }
