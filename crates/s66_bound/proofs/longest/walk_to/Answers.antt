use Rattle.std.proofs.Common.{ℕ, ◌≡◌, ◌+◌, ◌-◌, sym, ap, arith, get_or}
use Rattle.s66_model.proofs.TailTable.{walk-none, walk-some, link-small, tail-fits}
use Rattle.s66_bound.proofs.CostTables.{cost-at}
use Rattle.s66_bound.proofs.longest.walk_to.Goals as goal

-- the place of the number after a place
back : (k : ℕ) → k + 1 - 1 ≡ k
back k = omega arith

pub overflow_add-result : goal.overflow_add-result
overflow_add-result c =
    let (b, are, known) = c.requires.known in
    let m = c.args.later + 1 in
    let same = c.link-link.ensures _ _ (cost-at b c.args.costs.now c.args.place _ are (omega arith) c.index-costs-place.is) (cost-at b c.args.costs.now c.args.later _ are (omega arith) c.index-costs-later.is) in
    omega (arith, same, link-small b (c.args.place + 1) m, tail-fits b m (omega (arith, are.count)), known m (omega arith) (omega (arith, are.count)), ap (λ k. get_or c.args.longest.now k 0) (back c.args.later))

pub returns-then-link-eq0 : goal.returns-then-link-eq0
returns-then-link-eq0 c = λ b are known.
    let same = c.link-link.ensures _ _ (cost-at b c.args.costs.now c.args.place _ are (omega arith) c.index-costs-place.is) (cost-at b c.args.costs.now c.args.later _ are (omega arith) c.index-costs-later.is) in
    sym (walk-none b (c.args.place + 1) (c.args.later + 1) (omega (arith, same, c.if-link-eq0.true)))

pub returns-else-link-eq0 : goal.returns-else-link-eq0
returns-else-link-eq0 c = λ b are known.
    let m = c.args.later + 1 in
    let same = c.link-link.ensures _ _ (cost-at b c.args.costs.now c.args.place _ are (omega arith) c.index-costs-place.is) (cost-at b c.args.costs.now c.args.later _ are (omega arith) c.index-costs-later.is) in
    omega (arith, same, known m (omega arith) (omega (arith, are.count)), ap (λ k. get_or c.args.longest.now k 0) (back c.args.later), walk-some b (c.args.place + 1) m (omega arith) (omega (arith, same, c.if-link-eq0.false)))
