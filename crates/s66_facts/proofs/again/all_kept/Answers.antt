use Rattle.std.proofs.Common.{◌+◌, ◌≡◌, ◌==◌, true, sym, subst, inl, inr, ◌∙◌, eqb-true}
use Rattle.std.proofs.lemmas.Bool.{or_cases}
use Rattle.s66_isa.specs.{has, numbers_in}
use Rattle.s66_facts.specs.{before_in, sooner, keeps}
use Rattle.s66_facts.proofs.again.all_kept.Goals.{then-keeps, else-keeps}
use Rattle.s66_facts.proofs.again.all_kept.Goals as goal

pub loop-position-preserved : goal.loop-position-preserved
loop-position-preserved c = λ k is.
    let old = c.loop-position.invariant in
    let n = c.loop-position.position + 1 in
    elim c.if-keeps.branch [
      | then-keeps w ↦
          elim (or_cases (k == n) (has k (numbers_in c.loop-position.same)) (sym (w.with-same.ensures k) ∙ subst (λ s. has k (numbers_in s) ≡ true) w.same-is is)) [
            | inl here ↦ subst (λ j. keeps (sooner c.args.direction (before_in c.args.graph.now.marks)) c.args.m c.args.n j ≡ true) (sym (eqb-true k n here)) (sym c.keeps.ensures ∙ w.if-keeps.true)
            | inr earlier ↦ old k earlier
          ]
      | else-keeps w ↦ old k (subst (λ s. has k (numbers_in s) ≡ true) w.same-is is)
    ]
