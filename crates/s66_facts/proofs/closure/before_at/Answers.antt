use Rattle.std.proofs.Common.{ℕ, ◌+◌, ◌≤◌, length, sym, subst, arith, ◌∙◌, ap}
use Rattle.s66_isa.specs.{Set, has}
use Rattle.s66_facts.proofs.SoFar.{IsSoFar, so_far-none, so_far-more, so_far-past, so_far-all, closed-at}
use Rattle.s66_facts.proofs.closure.before_at.Goals.{then-depends, else-depends}
use Rattle.s66_facts.proofs.closure.before_at.Goals as goal

pub loop-earlier-init : goal.loop-earlier-init
loop-earlier-init c = so_far-none c.args.block.now (c.args.position + 1) c.empty-sooner.result (λ m. ap (has m) c.empty-sooner.ensures)

pub loop-earlier-preserved : goal.loop-earlier-preserved
loop-earlier-preserved c =
    let block = c.args.block.now in
    let n : ℕ = c.args.position + 1 in
    let count = c.loop-earlier.earlier in
    let old = c.loop-earlier.sooner in
    let high : n ≤ length block = omega (arith, c.requires.place) in
    elim c.if-depends.branch [
      | then-depends w ↦
          subst (λ (ms : Set). IsSoFar block n (count + 1) ms) (sym w.sooner-is)
          (so_far-more block n count old high w.marks_at-own.result w.with_all-with_those.result w.with-sooner.result (sym c.depends.ensures ∙ w.if-depends.true) c.loop-earlier.invariant
          (closed-at block c.args.before.now c.args.position count w.marks_at-own.result c.requires.closed c.loop-earlier-test.true w.marks_at-own.ensures) w.with_all-with_those.ensures (λ m low. w.with-sooner.ensures m))
      | else-depends w ↦
          subst (λ (ms : Set). IsSoFar block n (count + 1) ms) (sym w.sooner-is)
          (so_far-past block n count old high (sym c.depends.ensures ∙ w.if-depends.false) c.loop-earlier.invariant)
    ]

pub returns : goal.returns
returns c = so_far-all c.args.block.now (c.args.position + 1) c.loop-earlier.earlier c.loop-earlier.sooner (omega arith) (omega (arith, c.requires.place)) (omega (arith, c.loop-earlier-test.false)) c.loop-earlier.invariant
