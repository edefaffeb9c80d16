use Rattle.std.proofs.Common.{ℕ, ◌≡◌}
use Rattle.s66_isa.specs.{has, numbers_in}
use Rattle.s66_facts.specs.{before_in}
use Rattle.s66_facts.proofs.Each.{each-push}
use Rattle.s66_facts.proofs.pairs.turned.Goals as goal

pub loop-position-preserved : goal.loop-position-preserved
loop-position-preserved c =
    let both = each-push (λ n ms. (m : ℕ) → has m (numbers_in ms) ≡ before_in c.args.before.now n m) c.loop-position.all.items c.push.new.self.items c.turned_at-later.result c.loop-position.position c.loop-position.invariant.count c.loop-position.invariant.each c.turned_at-later.ensures c.push.ensures.items in
    record { count = both.0; each = both.1 }
