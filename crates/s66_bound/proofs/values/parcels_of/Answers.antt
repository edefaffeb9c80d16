use Rattle.std.proofs.Common.{◌≡◌, ◌+◌, arith, ap, length}
use Rattle.s66_isa.specs.{numbers_in}
use Rattle.s66_isa.proofs.Sets.{numbers_in-few}
use Rattle.s66_model.specs.{Parcels, parcels}
use Rattle.s66_model.proofs.FloorParts.{leaf-fits, rest-some}
use Rattle.s66_time.specs.{problem_of}
use Rattle.s66_time.proofs.RemainingSets.{both-are}
use Rattle.s66_bound.proofs.RemainingSums.{is_long, parcels-are}
use Rattle.s66_bound.proofs.values.parcels_of.Goals as goal

pub overflow_add-parcels : goal.overflow_add-parcels
overflow_add-parcels c = omega (arith, c.count.ensures, c.count-2.ensures, numbers_in-few c.args.rest.now, numbers_in-few c.both.result)

pub overflow_add-result : goal.overflow_add-result
overflow_add-result c = omega (arith, c.count.ensures, c.count-2.ensures, numbers_in-few c.args.rest.now, numbers_in-few c.both.result, c.next.ensures.at_most)

pub least_spare-requires-clause-some : goal.least_spare-requires-clause-some
least_spare-requires-clause-some c =
    let t = c.args.clock.now in
    omega (arith, ap length c.requires.rest.numbers, rest-some (problem_of t) t.numbers c.requires.rest.begins c.requires.some)

-- the next slot, the parcels and the least that a tail is longer are the bound
sum-is : (c : goal.After-least_spare) → c.next.result + (c.count.result + c.count-2.result) + c.least_spare.result ≡ parcels (problem_of c.args.clock.now) c.args.clock.now.numbers
sum-is c =
    let t = c.args.clock.now in
    let b = problem_of t in
    omega (
      arith,
      c.next.ensures.value,
      c.count.ensures,
      c.count-2.ensures,
      c.least_spare.ensures,
      parcels-are b t.numbers c.args.tables.now.spare (numbers_in c.args.rest.now) (numbers_in c.both.result) c.requires.rest.numbers
          (both-are b t.numbers (is_long b) c.args.rest.now c.args.tables.now.long c.both.result c.requires.rest.few c.requires.rest.numbers c.requires.tables.long c.both.ensures)
          (omega (arith, ap length c.requires.rest.numbers, rest-some b t.numbers c.requires.rest.begins c.requires.some))
          c.requires.tables.spare,
    )

pub overflow_add-result-2 : goal.overflow_add-result-2
overflow_add-result-2 c =
    let t = c.args.clock.now in
    omega (arith, sum-is c, leaf-fits (problem_of t) t.numbers Parcels c.requires.rest.begins c.requires.rest.few c.requires.some)

pub returns : goal.returns
returns c = omega (arith, sum-is c)
