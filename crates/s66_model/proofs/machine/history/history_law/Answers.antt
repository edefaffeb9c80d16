use Rattle.s66_model.proofs.Histories.{run-front, run-join, run-same, history-spent}
use Rattle.s66_model.proofs.machine.history.history_law.Goals as goal

pub returns : goal.returns
returns c = record { front = run-front; joined = run-join; one_state = run-same; spent = history-spent }
