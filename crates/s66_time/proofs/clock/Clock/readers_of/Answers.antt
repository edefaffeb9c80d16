use Rattle.std.proofs.Common.{ap, arith, ◌∙◌}
use Rattle.s66_isa.specs.{has_reg}
use Rattle.s66_model.specs.{Point, readers_wait}
use Rattle.s66_time.specs.{points}
use Rattle.s66_time.proofs.Clocks.{clock-words, clock-turn}
use Rattle.s66_time.proofs.MarkedWords.{waits-le}
use Rattle.s66_time.proofs.clock.Clock.readers_of.Goals as goal

pub returns-clause-value : goal.returns-clause-value
returns-clause-value c = c.at.ensures _ (clock-words _ _ _ c.self.invariant.clock).read ∙ ap (λ t. readers_wait (points t) c.args.register) c.self.view_is

pub returns-clause-at_most : goal.returns-clause-at_most
returns-clause-at_most c =
    let turn = clock-turn _ _ _ c.self.invariant.clock in
    omega (arith, c.at.ensures _ (clock-words _ _ _ c.self.invariant.clock).read, waits-le _ (λ (p : Point). has_reg c.args.register p.row.reads) turn, turn.early)
