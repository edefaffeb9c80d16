use Rattle.s66_program.proofs.Reports.{best-said, blocks-reported, least-said}
use Rattle.s66_program.proofs.order_laws.reported_law.Goals as goal

pub returns : goal.returns
returns c = record { blocks = blocks-reported; best = best-said; least = least-said }
