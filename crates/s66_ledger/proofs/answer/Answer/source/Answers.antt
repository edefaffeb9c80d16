use Rattle.std.proofs.Common.{◌∙◌, ap}
use Rattle.s66_model.specs.{source_time}
use Rattle.s66_ledger.specs.{AnswerOf}
use Rattle.s66_ledger.proofs.answer.Answer.source.Goals as goal

pub returns : goal.returns
returns c = c.self.invariant.source ∙ ap (λ (a : AnswerOf). source_time a.problem) c.self.view_is
