use Rattle.std.proofs.Common.{ap}
use Rattle.s66_model.specs.{vertex_of}
use Rattle.s66_checker.specs.Checked.{Checked}
use Rattle.s66_checker.proofs.TreeWalk.{first-ready, first-taken}
use Rattle.s66_checker.proofs.walk.go_on.Goals as goal

pub push-requires : goal.push-requires
push-requires c =
    let p = c.args.prefix.now in
    first-ready p.problem.block p.numbers (vertex_of c.args.line) c.in-Split.numbers.now (ap vertex_of c.in-Split.is) c.requires c.in-Some.first.now c.in-Some.ensures.value

pub returns-in-Some-clause-next : goal.returns-in-Some-clause-next
returns-in-Some-clause-next c =
    let p = c.args.prefix.now in
    rw (ap (λ (x : Checked). x.numbers) c.push.ensures)
    (first-taken p.problem.block p.numbers (vertex_of c.args.line) c.in-Split.numbers.now (ap vertex_of c.in-Split.is) c.requires c.in-Some.first.now c.in-Some.ensures.value)
