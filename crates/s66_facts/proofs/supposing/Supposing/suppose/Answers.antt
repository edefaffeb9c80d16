use Rattle.std.proofs.Common.{true, arith, ap, sym, ◌∙◌}
use Rattle.s66_moments.specs.{may_be_supposed}
use Rattle.s66_facts.specs.{known_of, Grounds}
use Rattle.s66_facts.proofs.Opened.{pair-loads, new-open}
use Rattle.s66_facts.proofs.supposing.Supposing.suppose.Goals as goal

pub invariant_of-self : goal.invariant_of-self
invariant_of-self c =
    let g = c.self.inside.facts in
    let may = ap (λ (k : Grounds). may_be_supposed k.ground.problem (known_of k.ground) c.args.first c.args.second) c.self.view_is ∙ (sym c.may_suppose.ensures ∙ c.if-not-may_suppose.false) in (
      new-open c.duplicate-outer.result g c.add_pair.new.self.problem 0 c.self.inside.steps c.args.first c.args.second c.duplicate-outer.ensures c.add_pair.ensures.problem may c.self.invariant.1,
      omega (arith, c.self.invariant.1, pair-loads true c.add_pair.new.self g c.args.second c.args.first c.add_pair.ensures.known),
    )
