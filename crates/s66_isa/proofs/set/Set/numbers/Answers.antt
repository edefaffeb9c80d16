use Rattle.std.proofs.Common.{ℕ, suc, ◌≡◌, List, ◌++◌, length, ap, arith, length-append}
use Rattle.s66_isa.specs.{numbers_in}
use Rattle.s66_isa.proofs.Sets.{numbers_in-few}
use Rattle.s66_isa.proofs.set.Set.numbers.Goals as goal

pub push-requires : goal.push-requires
push-requires c =
    let count : List ℕ → ℕ = λ ns. length ns in
    let so_far : length (c.loop-number.numbers.items ++ numbers_in c.loop-number.rest) ≡ length (numbers_in c.args.self.now) = ap count c.loop-number.invariant in
    let left : length (numbers_in c.loop-number.rest) ≡ suc (length (numbers_in c.pop_first.new.self)) = ap count c.in-Some.ensures.some in
    omega (arith, length-append c.loop-number.numbers.items (numbers_in c.loop-number.rest), so_far, left, numbers_in-few c.args.self.now)
