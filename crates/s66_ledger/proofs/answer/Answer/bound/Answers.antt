use Rattle.std.proofs.Common.{subst}
use Rattle.s66_model.specs.{IsBound}
use Rattle.s66_model.proofs.AnswerBound.{answer-bound}
use Rattle.s66_model.proofs.Floors.{floor-stands}
use Rattle.s66_ledger.specs.{AnswerOf}
use Rattle.s66_ledger.proofs.answer.Answer.bound.Goals as goal

pub returns-clause-bound : goal.returns-clause-bound
returns-clause-bound c =
    let s = c.self.inside in
    subst (λ (a : AnswerOf). IsBound a.problem s.bound) c.self.view_is
    (subst (λ low. IsBound s.best.problem low) c.self.invariant.bound (answer-bound floor-stands s.rule s.best.problem s.budget _ c.self.invariant.answer))
