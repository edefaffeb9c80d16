use Rattle.std.proofs.Common.{subst}
use Rattle.s66_model.specs.{IsAnswer}
use Rattle.s66_ledger.specs.{AnswerOf, answer_of}
use Rattle.s66_ledger.proofs.answer.Answer.time.Goals as goal

pub returns-clause-answer : goal.returns-clause-answer
returns-clause-answer c = subst (λ (a : AnswerOf). IsAnswer a.rule a.problem a.budget (answer_of a)) c.self.view_is c.self.invariant.answer
