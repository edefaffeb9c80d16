use Rattle.s66_answer.proofs.AnswerVerdicts.{same-problem, spelled-block}
use Rattle.s66_answer.proofs.EveryAnswer.{answer-document, answer-verdict}
use Rattle.s66_program.proofs.laws.proved_law.Goals as goal

pub returns : goal.returns
returns c = record {
  same = λ strategy p text blocks block a accepted among. same-problem strategy.search.rule p block a (spelled-block text blocks accepted block among).2;
  document = λ strategy p text blocks block a accepted among. answer-document strategy p block a (spelled-block text blocks accepted block among);
  yes = λ strategy p text blocks block a accepted among. answer-verdict strategy p block a (spelled-block text blocks accepted block among);
}
