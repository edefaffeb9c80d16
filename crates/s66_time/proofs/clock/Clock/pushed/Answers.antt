use Rattle.std.proofs.Common.{ap, subst, arith, length, ◌∙◌}
use Rattle.s66_isa.specs.{has}
use Rattle.s66_model.specs.{IsBeginning}
use Rattle.s66_line.specs.{instrs_of}
use Rattle.s66_time.specs.Ticking.{Ticking}
use Rattle.s66_time.proofs.Clocks.{clock-words, has-points}
use Rattle.s66_time.proofs.clock.Clock.pushed.Goals as goal

pub returns-clause-value : goal.returns-clause-value
returns-clause-value c = λ m.
    (clock-words _ _ _ c.self.invariant.clock).pushed m ∙ has-points _ m _ ∙ ap (λ (t : Ticking). has m t.numbers) c.self.view_is

pub returns-clause-begins : goal.returns-clause-begins
returns-clause-begins c = subst (λ (t : Ticking). IsBeginning (instrs_of t.block) t.numbers) c.self.view_is c.self.invariant.clock.begins

pub returns-clause-few : goal.returns-clause-few
returns-clause-few c = omega (arith, c.self.invariant.clock.few, ap (λ (t : Ticking). length (instrs_of t.block)) c.self.view_is)
