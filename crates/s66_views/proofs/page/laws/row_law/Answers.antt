use Rattle.s66_views.proofs.Rows.{order-rows, row-times, row-waits, row-work}
use Rattle.s66_views.proofs.page.laws.row_law.Goals as goal

pub returns : goal.returns
returns c = record { rows = order-rows; times = row-times; work = row-work; waits = row-waits }
