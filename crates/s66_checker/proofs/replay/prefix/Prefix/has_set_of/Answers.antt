use Rattle.std.proofs.Common.{subst}
use Rattle.s66_isa.proofs.SetBits.{same-inside}
use Rattle.s66_model.specs.{Problem}
use Rattle.s66_checker.specs.Checked.{Checked}
use Rattle.s66_checker.proofs.TwoPrefixes.{Keeps, keeps, same-stated}
use Rattle.s66_checker.proofs.replay.prefix.Prefix.has_set_of.Goals as goal

pub returns : goal.returns
returns c =
    let b : Problem = c.args.other.now.problem in
    let named = subst (λ (p : Problem). Keeps p c.args.self.now.numbers c.self.inside.profile c.self.inside.placed c.self.inside.past) c.requires
    (subst (λ (q : Checked). Keeps q.problem q.numbers c.self.inside.profile c.self.inside.placed c.self.inside.past) c.self.view_is (keeps _ _ _ _ _ _ _ c.self.invariant)) in
    let there = subst (λ (q : Checked). Keeps q.problem q.numbers c.other.inside.profile c.other.inside.placed c.other.inside.past) c.other.view_is (keeps _ _ _ _ _ _ _ c.other.invariant) in
    same-stated b c.args.self.now.numbers c.args.other.now.numbers c.self.inside.profile c.other.inside.profile c.self.inside.placed c.other.inside.placed c.self.inside.past c.other.inside.past c.is_same.result named there
    ((λ is m low high. c.is_same.ensures.0 is m), λ each. c.is_same.ensures.1 (same-inside c.self.inside.placed c.other.inside.placed each))
