use Rattle.std.proofs.Common.{◌∙◌, arith, ap, sym, subst}
use Rattle.s66_model.specs.{Rule, Problem, next, total_of}
use Rattle.s66_checker.specs.Checked.{Checked}
use Rattle.s66_checker.specs.{dominates_by}
use Rattle.s66_checker.proofs.AheadOf.{apart-never}
use Rattle.s66_checker.proofs.PrefixSteps.{prefix-timed}
use Rattle.s66_checker.proofs.TwoPrefixes.{Keeps, keeps, later-total, written-stated, clamped-stated}
use Rattle.s66_checker.proofs.replay.prefix.Prefix.dominates.Goals as goal

pub returns-then-not-has_set_of : goal.returns-then-not-has_set_of
returns-then-not-has_set_of c =
    apart-never c.args.at.now.problem c.args.self.now.numbers c.args.at.now.numbers c.args.rule (sym c.has_set_of.ensures ∙ c.if-not-has_set_of.true)

pub returns-then-total : goal.returns-then-total
returns-then-total c =
    let b : Problem = c.args.at.now.problem in
    let named = subst (λ (p : Problem). Keeps p c.args.self.now.numbers c.self.inside.profile c.self.inside.placed c.self.inside.past) c.requires
    (subst (λ (q : Checked). Keeps q.problem q.numbers c.self.inside.profile c.self.inside.placed c.self.inside.past) c.self.view_is (keeps _ _ _ _ _ _ _ c.self.invariant)) in
    let there = subst (λ (q : Checked). Keeps q.problem q.numbers c.at.inside.profile c.at.inside.placed c.at.inside.past) c.at.view_is (keeps _ _ _ _ _ _ _ c.at.invariant) in
    later-total b c.args.self.now.numbers c.args.at.now.numbers c.self.inside.profile c.at.inside.profile c.self.inside.placed c.at.inside.placed c.self.inside.past c.at.inside.past named there (sym c.has_set_of.ensures ∙ c.if-not-has_set_of.false)
    (omega (arith, c.if-total.true, c.total.ensures, c.total-in-WrittenEarlier.ensures, ap (λ (p : Problem). total_of p c.args.self.now.numbers) c.requires))
    ∙ ap (λ (rule : Rule). dominates_by rule b c.args.self.now.numbers c.args.at.now.numbers) (sym c.in-WrittenEarlier.is)

pub is_no_later-requires : goal.is_no_later-requires
is_no_later-requires c = record { own = prefix-timed _ _ _ _ _ _ _ c.self.invariant; other = prefix-timed _ _ _ _ _ _ _ c.at.invariant }

pub is_no_later-requires-in-ClampedStanding : goal.is_no_later-requires-in-ClampedStanding
is_no_later-requires-in-ClampedStanding c = record { own = prefix-timed _ _ _ _ _ _ _ c.self.invariant; other = prefix-timed _ _ _ _ _ _ _ c.at.invariant }

pub returns-else-total : goal.returns-else-total
returns-else-total c =
    let b : Problem = c.args.at.now.problem in
    let named = subst (λ (p : Problem). Keeps p c.args.self.now.numbers c.self.inside.profile c.self.inside.placed c.self.inside.past) c.requires
    (subst (λ (q : Checked). Keeps q.problem q.numbers c.self.inside.profile c.self.inside.placed c.self.inside.past) c.self.view_is (keeps _ _ _ _ _ _ _ c.self.invariant)) in
    let there = subst (λ (q : Checked). Keeps q.problem q.numbers c.at.inside.profile c.at.inside.placed c.at.inside.past) c.at.view_is (keeps _ _ _ _ _ _ _ c.at.invariant) in
    written-stated b c.args.self.now.numbers c.args.at.now.numbers c.self.inside.profile c.at.inside.profile c.self.inside.placed c.at.inside.placed c.self.inside.past c.at.inside.past named there (sym c.has_set_of.ensures ∙ c.if-not-has_set_of.false)
    (omega (arith, c.if-total.false, c.total.ensures, c.total-in-WrittenEarlier.ensures, ap (λ (p : Problem). total_of p c.args.self.now.numbers) c.requires))
    c.is_no_later.result c.is_no_later.ensures
    ∙ ap (λ (rule : Rule). dominates_by rule b c.args.self.now.numbers c.args.at.now.numbers) (sym c.in-WrittenEarlier.is)

pub returns-in-ClampedStanding : goal.returns-in-ClampedStanding
returns-in-ClampedStanding c =
    let b : Problem = c.args.at.now.problem in
    let named = subst (λ (p : Problem). Keeps p c.args.self.now.numbers c.self.inside.profile c.self.inside.placed c.self.inside.past) c.requires
    (subst (λ (q : Checked). Keeps q.problem q.numbers c.self.inside.profile c.self.inside.placed c.self.inside.past) c.self.view_is (keeps _ _ _ _ _ _ _ c.self.invariant)) in
    let there = subst (λ (q : Checked). Keeps q.problem q.numbers c.at.inside.profile c.at.inside.placed c.at.inside.past) c.at.view_is (keeps _ _ _ _ _ _ _ c.at.invariant) in
    clamped-stated b c.args.self.now.numbers c.args.at.now.numbers c.self.inside.profile c.at.inside.profile c.self.inside.placed c.at.inside.placed c.self.inside.past c.at.inside.past named there (sym c.has_set_of.ensures ∙ c.if-not-has_set_of.false) c.next-now.result (c.next-now.ensures.value ∙ ap next c.points.ensures.value)
    c.is_no_later-in-ClampedStanding.result c.is_no_later-in-ClampedStanding.ensures
    ∙ ap (λ (rule : Rule). dominates_by rule b c.args.self.now.numbers c.args.at.now.numbers) (sym c.in-ClampedStanding.is)
