use Rattle.std.proofs.Common.{ℕ, ◌-◌, ◌^◌, get_or, sym, ap, arith, ◌∙◌}
use Rattle.s66_isa.specs.{numbers_in}
use Rattle.s66_bound.proofs.SetWalks.{least_with, least-from}
use Rattle.s66_bound.proofs.numbers.least_of.Goals as goal

pub returns : goal.returns
returns c =
    let f : ℕ → ℕ = λ n. get_or c.args.words.now (n - 1) 0 in
    sym (ap (least_with c.loop-number.low f) c.in_default.ensures.none)
    ∙ (c.loop-number.invariant
    ∙ sym (least-from f (2 ^ 32 - 1) (numbers_in c.args.numbers.now) (λ n. omega (arith, c.fits-words (n - 1))) c.requires))
