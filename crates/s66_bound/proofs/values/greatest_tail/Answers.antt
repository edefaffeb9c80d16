use Rattle.std.proofs.Common.{not, length}
use Rattle.s66_isa.specs.{has}
use Rattle.s66_model.specs.{longest_tail}
use Rattle.s66_time.specs.{problem_of}
use Rattle.s66_bound.proofs.RemainingSums.{tail-greatest, tail-none}
use Rattle.s66_bound.proofs.values.greatest_tail.Goals as goal

pub returns-in-Some : goal.returns-in-Some
returns-in-Some c =
    let t = c.args.clock.now in
    let b = problem_of t in
    tail-greatest b t.numbers c.in-Some.tail (c.in-Some.ensures.some (longest_tail b) (length b.block) (λ n. not (has n t.numbers)) c.requires.tables.ranking c.requires.ranks)

pub returns-in-None : goal.returns-in-None
returns-in-None c =
    let t = c.args.clock.now in
    tail-none (problem_of t) t.numbers c.args.ranks.now c.requires.ranks c.in-None.ensures.none
