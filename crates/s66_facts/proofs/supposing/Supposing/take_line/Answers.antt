use Rattle.std.proofs.Common.{◌+◌, ap, sym, arith, ◌∙◌}
use Rattle.s66_moments.specs.{Load, is_taken}
use Rattle.s66_facts.specs.{known_of, Grounds}
use Rattle.s66_facts.proofs.Opened.{pair-loads, load-loads, open-more}
use Rattle.s66_facts.proofs.supposing.Supposing.take_line.Goals as goal

pub invariant_of-self : goal.invariant_of-self
invariant_of-self c = (
  open-more c.self.inside.facts.problem c.take_pair.new.self.problem c.self.inside.steps (c.self.inside.steps + 1) c.self.inside.supposed c.take_pair.ensures.problem (omega arith) c.self.invariant.0,
  omega (arith, c.self.invariant.1, pair-loads c.take_pair.result c.take_pair.new.self c.self.inside.facts c.in-Pair.first c.in-Pair.second c.take_pair.ensures.known),
)

pub invariant_of-self-in-Load : goal.invariant_of-self-in-Load
invariant_of-self-in-Load c = (
  open-more c.self.inside.facts.problem c.take_load.new.self.problem c.self.inside.steps (c.self.inside.steps + 1) c.self.inside.supposed c.take_load.ensures.problem (omega arith) c.self.invariant.0,
  omega (arith, c.self.invariant.1, load-loads c.take_load.result c.take_load.new.self c.self.inside.facts c.in-Load.load c.take_load.ensures.known),
)

pub returns-in-Load-clause-taken : goal.returns-in-Load-clause-taken
returns-in-Load-clause-taken c =
    c.take_load.ensures.taken ∙ ap (λ (g : Grounds). is_taken g.ground.problem c.args.bound (known_of g.ground) (Load c.in-Load.load)) c.self.view_is
    ∙ ap (λ line. is_taken c.args.self.now.ground.problem c.args.bound (known_of c.args.self.now.ground) line) (sym c.in-Load.is)
