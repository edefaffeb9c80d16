use Rattle.s66_answer.proofs.AnswerVerdicts.{spelled-block}
use Rattle.s66_answer.proofs.EveryAnswer.{answer-alone, answer-bound, answer-few, answer-legal, answer-spent, answer-time}
use Rattle.s66_program.proofs.laws.answered_law.Goals as goal

pub returns : goal.returns
returns c = record {
  legal = answer-legal;
  time = answer-time;
  bound = λ strategy p text blocks block a accepted among. answer-bound strategy p block a (spelled-block text blocks accepted block among);
  spent = answer-spent;
  few = answer-few;
  alone = answer-alone;
}
