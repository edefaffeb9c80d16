use Rattle.std.proofs.Common.{◌∙◌, ◌≡◌, ◌+◌, ◌||◌, true, refl, eqb, ap, sym, arith}
use Rattle.s66_isa.specs.{has}
use Rattle.s66_isa.proofs.Sets.{within, within-none, within-push, filter-every, numbers_in-filter}
use Rattle.s66_isa.proofs.set.Set.up_to.Goals as goal

pub loop-position-init : goal.loop-position-init
loop-position-init c = λ m. ap (has m) c.empty-set.ensures ∙ sym (within-none (λ n. true) m)

pub loop-position-preserved : goal.loop-position-preserved
loop-position-preserved c = λ m.
    c.with-set.ensures m
    ∙ (ap (λ b. eqb m (c.loop-position.position + 1) || b) (c.loop-position.invariant m)
    ∙ within-push (λ n. true) (c.loop-position.position + 1) m (omega arith) refl)

pub returns : goal.returns
returns c =
    let all : c.loop-position.position ≡ c.args.count = omega arith in
    numbers_in-filter c.loop-position.set (λ n. true) c.args.count (omega arith) (λ m. c.loop-position.invariant m ∙ ap (λ k. within (λ n. true) (k + 1) m) all)
    ∙ filter-every c.args.count 1
