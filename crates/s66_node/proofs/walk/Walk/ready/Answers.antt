use Rattle.std.proofs.Common.{ℕ, ◌∙◌, ◌<◌, List, length, get_or, ap, arith}
use Rattle.s66_node.proofs.Standing.{number-range, needs-few, front-next}
use Rattle.s66_node.proofs.walk.Walk.ready.Goals as goal

pub with-placed-requires : goal.with-placed-requires
with-placed-requires c =
    let i : ℕ = c.loop-position.position in
    let within : i < length c.self.inside.clock.numbers = omega (arith, c.loop-position-test.true, c.len-position-end.ensures.value, ap (λ (xs : List ℕ). length xs) c.self.invariant.numbers) in
    let here = ap (λ (xs : List ℕ). get_or xs i 0) (c.deref.ensures.0 ∙ c.self.invariant.numbers) in
    let (low, high) = number-range c.self.inside.clock _ _ _ _ _ c.args.self.now c.self.invariant c.self.view_is i _ within here in
    (low, omega (arith, high, needs-few c.self.inside.clock _ _ _ _ _ c.args.self.now c.self.invariant c.self.view_is))

pub ready_after-ready-requires : goal.ready_after-ready-requires
ready_after-ready-requires c =
    let i : ℕ = c.loop-position.position in
    let within : i < length c.self.inside.clock.numbers = omega (arith, c.loop-position-test.true, c.len-position-end.ensures.value, ap (λ (xs : List ℕ). length xs) c.self.invariant.numbers) in
    let here = ap (λ (xs : List ℕ). get_or xs i 0) (c.deref.ensures.0 ∙ c.self.invariant.numbers) in
    number-range c.self.inside.clock _ _ _ _ _ c.args.self.now c.self.invariant c.self.view_is i _ within here

pub loop-position-preserved : goal.loop-position-preserved
loop-position-preserved c =
    let i : ℕ = c.loop-position.position in
    let within : i < length c.self.inside.clock.numbers = omega (arith, c.loop-position-test.true, c.len-position-end.ensures.value, ap (λ (xs : List ℕ). length xs) c.self.invariant.numbers) in
    let here = ap (λ (xs : List ℕ). get_or xs i 0) (c.deref.ensures.0 ∙ c.self.invariant.numbers) in
    front-next c.self.inside.clock _ _ _ _ _ c.args.self.now c.self.invariant c.self.view_is i _ c.loop-position.placed c.loop-position.ready c.with-placed.result c.ready_after-ready.result within here c.loop-position.invariant c.with-placed.ensures c.ready_after-ready.ensures
