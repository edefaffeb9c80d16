use Rattle.std.proofs.Common.{ap, arith, cond, sym, ◌+◌, ◌∙◌, ◌≡◌}
use Rattle.s66_isa.specs.{greatest, memory_pair}
use Rattle.s66_model.specs.{Point, points_of}
use Rattle.s66_line.specs.{instrs_of}
use Rattle.s66_time.specs.{wait_of, points, numbers_of}
use Rattle.s66_time.proofs.ClockPoints.{memory-is}
use Rattle.s66_time.proofs.Clocks.{clock-words, clock-turn}
use Rattle.s66_time.proofs.MarkedWords.{waits-le}
use Rattle.s66_time.proofs.clock.Clock.memory_wait.Goals as goal

waited : (c : goal.After-memory_wait) → c.memory_wait.result ≡ greatest (λ (p : Point). cond (memory_pair p.row.memory c.args.memory) (p.start + 1) 0) (points_of (record { block = instrs_of c.self.inside.block.now; profile = c.self.inside.profile }) (numbers_of c.self.inside.steps))
waited c =
    let words = clock-words _ _ _ c.self.invariant.clock in
    c.memory_wait.ensures
    ∙ ap (λ x. wait_of c.args.memory x c.self.inside.words.progress.stores) words.refs
    ∙ ap (wait_of c.args.memory _) words.stores
    ∙ sym (memory-is c.args.memory _)

pub returns-clause-value : goal.returns-clause-value
returns-clause-value c = waited c ∙ ap (λ t. greatest (λ (p : Point). cond (memory_pair p.row.memory c.args.memory) (p.start + 1) 0) (points t)) c.self.view_is

pub returns-clause-at_most : goal.returns-clause-at_most
returns-clause-at_most c =
    let turn = clock-turn _ _ _ c.self.invariant.clock in
    omega (arith, waited c, waits-le _ (λ (p : Point). memory_pair p.row.memory c.args.memory) turn, turn.early)
