use Rattle.std.proofs.Common.{arith, ◌∙◌}
use Rattle.s66_isa.proofs.Sets.{without-one}
use Rattle.s66_model.proofs.LegalOrders.{ready-parts}
use Rattle.s66_checker.proofs.PrefixSteps.{last-ready, prefix-pop}
use Rattle.s66_checker.proofs.replay.prefix.Prefix.pop.Goals as goal

pub with-requires : goal.with-requires
with-requires c =
    let ready = (last-ready c.self.inside.block.items _ c.pop.new.self.items c.in_ok-n.n c.self.invariant.begins c.in_ok-n.ensures.items).1 in
    let (low, high, new, met) = ready-parts c.self.inside.block.items c.pop.new.self.items c.in_ok-n.n ready in
    (low, omega (arith, high, c.self.invariant.few))

pub invariant_of-self-2 : goal.invariant_of-self-2
invariant_of-self-2 c = prefix-pop _ _ _ _ _ _ c.self.inside.past c.in_ok-n.n _ c.pop.new.self.items _ c.self.invariant (λ m low high. c.without-self-inside.ensures m ∙ without-one c.self.inside.placed c.with.result c.empty.result m c.in_ok-n.n (c.with.ensures m) c.empty.ensures) c.in_ok-n.ensures.items c.pop-2.ensures
