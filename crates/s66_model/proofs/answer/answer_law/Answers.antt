use Rattle.s66_model.proofs.Floors.{floor-stands}
use Rattle.s66_model.proofs.AnswerBound.{answer-shown, answer-bound, answer-best}
use Rattle.s66_model.proofs.answer.answer_law.Goals as goal

pub returns : goal.returns
returns c = record { shown = answer-shown floor-stands; bound = answer-bound floor-stands; best = answer-best floor-stands }
