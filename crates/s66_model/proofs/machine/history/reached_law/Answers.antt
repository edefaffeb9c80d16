use Rattle.std.proofs.Common.{[], refl}
use Rattle.s66_model.proofs.Histories.{reached-step, reached-covers, reached-table, reached-source}
use Rattle.s66_model.proofs.machine.history.reached_law.Goals as goal

pub returns : goal.returns
returns c = record {
  opening = λ rule b budget workers. ([], refl);
  step = reached-step;
  covers = reached-covers;
  table = reached-table;
  source = reached-source;
}
