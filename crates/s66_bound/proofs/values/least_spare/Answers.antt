use Rattle.std.proofs.Common.{length}
use Rattle.s66_time.specs.{problem_of}
use Rattle.s66_time.proofs.RemainingSets.{remaining-within}
use Rattle.s66_bound.proofs.LeastWords.{end-least}
use Rattle.s66_bound.proofs.values.least_spare.Goals as goal

pub returns-in-Some : goal.returns-in-Some
returns-in-Some c =
    let t = c.args.clock.now in
    let b = problem_of t in
    end-least c.args.tables.now.spare (length b.block) c.in-Some.number c.args.rest.now c.args.tables.now.ends c.both-ends.result c.pop_first.new.self c.requires.tables.ends c.both-ends.ensures
    (remaining-within b.block t.numbers c.args.rest.now c.requires.rest.numbers) c.requires.some c.in-Some.ensures.some
