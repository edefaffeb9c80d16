use Rattle.std.proofs.Common.{◌+◌, ◌∙◌, ap, sym, subst, arith}
use Rattle.s66_isa.specs.{has}
use Rattle.s66_checker.proofs.ReadyByNeeds.{Looked, looked-none, looked-next, looked-past, looked-all}
use Rattle.s66_checker.proofs.replay.needs.needs.Goals.{then-depends, else-depends}
use Rattle.s66_checker.proofs.replay.needs.needs.Goals as goal

pub loop-earlier-init : goal.loop-earlier-init
loop-earlier-init c = looked-none c.args.block.now (c.args.position + 1) c.empty-needs.result (λ m. ap (has m) c.empty-needs.ensures)

pub loop-earlier-preserved : goal.loop-earlier-preserved
loop-earlier-preserved c =
    let block = c.args.block.now in
    let k = c.loop-earlier.earlier in
    let n = c.args.position + 1 in
    elim c.if-depends.branch [
      | then-depends w ↦
          subst (λ v. Looked block (k + 1) n v) (sym w.needs-is)
          (looked-next block k n c.loop-earlier.needs w.with-needs.result c.loop-earlier.invariant (sym c.depends.ensures ∙ w.if-depends.true) (λ m low. w.with-needs.ensures m))
      | else-depends w ↦
          subst (λ v. Looked block (k + 1) n v) (sym w.needs-is)
          (looked-past block k n c.loop-earlier.needs c.loop-earlier.invariant (sym c.depends.ensures ∙ w.if-depends.false))
    ]

pub returns : goal.returns
returns c = looked-all c.args.block.now c.loop-earlier.earlier (c.args.position + 1) c.loop-earlier.needs c.loop-earlier.invariant (omega arith)
