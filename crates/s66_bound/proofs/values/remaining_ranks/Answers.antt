use Rattle.std.proofs.Common.{length, refl}
use Rattle.s66_isa.specs.{numbers_in}
use Rattle.s66_isa.proofs.Lists.{has-among}
use Rattle.s66_model.specs.{longest_tail}
use Rattle.s66_time.specs.{problem_of}
use Rattle.s66_time.proofs.RankOrder.{ranks-left}
use Rattle.s66_time.proofs.RemainingSets.{remaining-within}
use Rattle.s66_bound.proofs.values.remaining_ranks.Goals as goal

pub ranks-requires : goal.ranks-requires
ranks-requires c =
    let t = c.args.clock.now in
    let b = problem_of t in
    record {
      known = (longest_tail b, length b.block, c.requires.tables.ranking, λ n there. remaining-within b.block t.numbers c.args.rest.now c.requires.rest.numbers n (has-among n (numbers_in c.args.rest.now) there));
    }

pub returns : goal.returns
returns c =
    let t = c.args.clock.now in
    let b = problem_of t in
    ranks-left (longest_tail b) (length b.block) b.block t.numbers c.args.rest.now c.ranks.result refl c.requires.rest.numbers
    (c.ranks.ensures (longest_tail b) (length b.block) c.requires.tables.ranking (λ n there. remaining-within b.block t.numbers c.args.rest.now c.requires.rest.numbers n (has-among n (numbers_in c.args.rest.now) there)))
