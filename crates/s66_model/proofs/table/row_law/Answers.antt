use Rattle.s66_isa.proofs.Writes.{row-writes}
use Rattle.s66_isa.proofs.GoodRows.{row-good}
use Rattle.s66_model.proofs.table.row_law.Goals as goal

pub returns : goal.returns
returns c = record { good = row-good; writes = row-writes }
