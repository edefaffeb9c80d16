use Rattle.std.proofs.Common.{◌≡◌, true, refl, subst, sym}
use Rattle.s66_lint.specs.{is_in_order}
use Rattle.s66_lint.proofs.Listings.{order-later, order-with}
use Rattle.s66_lint.proofs.findings.push_findings.Goals as goal

pub loop-finding-init : goal.loop-finding-init
loop-finding-init c = λ before below h. order-later 1 before c.args.number c.args.all.now.items below h

pub loop-finding-preserved : goal.loop-finding-preserved
loop-finding-preserved c = λ before below h.
    subst (λ found. is_in_order 1 c.args.number found ≡ true) (sym c.in_ok-push.ensures.items)
    (order-with 1 c.args.number c.loop-finding.all.items _ c.requires refl (c.loop-finding.invariant before below h))
