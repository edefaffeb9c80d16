use Rattle.std.proofs.Common.{ℕ, ◌≡◌, ◌<◌, ◌-◌, length, get_or, take, sym, subst, arith}
use Rattle.s66_model.specs.{IsBeginning}
use Rattle.s66_model.proofs.LegalOrders.{ready-parts}
use Rattle.s66_node.proofs.Standing.{ready-at}
use Rattle.s66_deep.proofs.walk.PathWalk.undo.Goals as goal

pub put_back-requires : goal.put_back-requires
put_back-requires c =
    let block = c.self.inside.walk.problem.block in
    let ns = c.numbers.result.now in
    let last : ℕ = length ns - 1 in
    let within : last < length ns = omega (arith, c.in-Some.ensures.item.3.0) in
    let here : c.in-Some.field-0.now ≡ get_or ns last 0 = c.in-Some.ensures.item.4 (omega arith) 0 in
    let begins = subst (IsBeginning block) (sym c.numbers.ensures.value) c.numbers.ensures.begins in
    let (low, high, new, met) = ready-parts block (take last ns) (get_or ns last 0) (ready-at block ns last begins within) in
    (omega (arith, low, here), omega (arith, high, here, c.self.invariant))
