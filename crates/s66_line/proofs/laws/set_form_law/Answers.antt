use Rattle.s66_line.proofs.SetForms.{within}
use Rattle.s66_line.proofs.laws.set_form_law.Goals as goal

pub returns : goal.returns
returns c = within
