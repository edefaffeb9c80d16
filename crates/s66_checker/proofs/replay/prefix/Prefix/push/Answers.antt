use Rattle.std.proofs.Common.{arith, ◌∙◌, ap, sym, subst, ◌≡◌, true}
use Rattle.s66_model.specs.{point_of, points_of, is_ready}
use Rattle.s66_model.proofs.LegalOrders.{ready-parts}
use Rattle.s66_checker.specs.Checked.{Checked}
use Rattle.s66_checker.proofs.PrefixSteps.{room-left, prefix-push}
use Rattle.s66_checker.proofs.replay.prefix.Prefix.push.Goals as goal

pub next_point-point-requires : goal.next_point-point-requires
next_point-point-requires c = (let (low, high, new, met) = ready-parts c.args.self.now.problem.block c.args.self.now.numbers c.args.n c.requires in (low, high))

pub with-self-inside-requires : goal.with-self-inside-requires
with-self-inside-requires c =
    let (low, high, new, met) = ready-parts c.self.inside.block.items c.self.inside.numbers.items c.args.n (subst (λ (q : Checked). is_ready q.problem.block q.numbers c.args.n ≡ true) (sym c.self.view_is) c.requires) in
    (low, omega (arith, high, c.self.invariant.few))

pub push-requires : goal.push-requires
push-requires c =
    (room-left _ _ _ _ _ _ _ c.args.n c.self.invariant (subst (λ (q : Checked). is_ready q.problem.block q.numbers c.args.n ≡ true) (sym c.self.view_is) c.requires)).0

pub push-requires-2 : goal.push-requires-2
push-requires-2 c =
    (omega arith, (room-left _ _ _ _ _ _ _ c.args.n c.self.invariant (subst (λ (q : Checked). is_ready q.problem.block q.numbers c.args.n ≡ true) (sym c.self.view_is) c.requires)).1)

pub invariant_of-self : goal.invariant_of-self
invariant_of-self c =
    let n = c.args.n in
    let point = c.next_point-point.ensures.value ∙ ap (λ (q : Checked). point_of q.problem (points_of q.problem q.numbers) n) (sym c.self.view_is) in
    prefix-push _ _ _ _ _ _ c.self.inside.past n _ c.next_point-point.result _ _ c.self.invariant (λ m low. c.with-self-inside.ensures m)
    (subst (λ (q : Checked). is_ready q.problem.block q.numbers n ≡ true) (sym c.self.view_is) c.requires)
    point c.push-2.ensures.items c.push.ensures
