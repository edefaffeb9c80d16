use Rattle.std.proofs.Common.{ℕ, ◌≡◌, false, arith, ap}
use Rattle.s66_isa.specs.{numbers_in, has}
use Rattle.s66_facts.proofs.Each.{each-push}
use Rattle.s66_facts.proofs.marks.none_each.Goals as goal

pub loop-position-preserved : goal.loop-position-preserved
loop-position-preserved c =
    let both = each-push (λ n ms. (m : ℕ) → has m (numbers_in ms) ≡ false) c.loop-position.all.items c.push.new.self.items c.empty.result c.loop-position._position c.loop-position.invariant.count c.loop-position.invariant.each (λ m. ap (has m) c.empty.ensures) c.push.ensures.items in
    record { count = both.0; each = both.1 }

pub returns-clause-none : goal.returns-clause-none
returns-clause-none c = λ m n low high. c.loop-position.invariant.each n low (omega (arith, high, c.loop-position-test.false)) m
