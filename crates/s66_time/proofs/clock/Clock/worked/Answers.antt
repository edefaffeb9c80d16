use Rattle.std.proofs.Common.{ap, subst, arith, length, get_or, ◌∙◌}
use Rattle.s66_model.specs.{IsBeginning}
use Rattle.s66_line.specs.{instrs_of}
use Rattle.s66_time.specs.{worked_of, points}
use Rattle.s66_time.specs.Ticking.{Ticking}
use Rattle.s66_time.proofs.Clocks.{clock-words}
use Rattle.s66_time.proofs.clock.Clock.worked.Goals as goal

pub returns-clause-value : goal.returns-clause-value
returns-clause-value c =
    ap (λ k. get_or c.self.inside.words.worked k 0) c.kind_number.ensures.value
    ∙ (clock-words _ _ _ c.self.invariant.clock).worked c.args.kind
    ∙ ap (λ t. worked_of c.args.kind (points t)) c.self.view_is

pub returns-clause-begins : goal.returns-clause-begins
returns-clause-begins c = subst (λ (t : Ticking). IsBeginning (instrs_of t.block) t.numbers) c.self.view_is c.self.invariant.clock.begins

pub returns-clause-few : goal.returns-clause-few
returns-clause-few c = omega (arith, c.self.invariant.clock.few, ap (λ (t : Ticking). length (instrs_of t.block)) c.self.view_is)
