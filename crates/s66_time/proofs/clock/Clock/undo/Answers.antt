use Rattle.std.proofs.Common.{arith, ap, ◌-◌, ◌+◌, ◌≡◌, length}
use Rattle.s66_model.specs.{Problem}
use Rattle.s66_line.specs.{instrs_of}
use Rattle.s66_time.specs.Ticking.{Ticking}
use Rattle.s66_time.proofs.Clocks.{after_undo-clock, last-split, length-numbers}
use Rattle.s66_time.proofs.clock.Clock.undo.Goals as goal

pub last-step-requires : goal.last-step-requires
last-step-requires c = omega (arith, c.requires, ap (λ (t : Ticking). length t.numbers) c.self.view_is, length-numbers c.self.inside.steps)

pub invariant_of-self : goal.invariant_of-self
invariant_of-self c =
    let b : Problem = record { block = instrs_of c.self.inside.block.now; profile = c.self.inside.profile } in
    let ks = c.self.inside.steps in
    let k = c.last-step.result.now in
    let e : length ks - 1 + 1 ≡ length ks = omega (arith, c.requires, ap (λ (t : Ticking). length t.numbers) c.self.view_is, length-numbers ks) in
    let split = last-split ks (length ks - 1) k e c.last-step.ensures in
    rw (c.remove_last.ensures, c.undo.ensures) (record { clock = after_undo-clock b c.self.inside.words ks _ k split c.self.invariant.clock; counted = c.self.invariant.counted; kept = c.self.invariant.kept; each = c.self.invariant.each; digits = c.self.invariant.digits })
