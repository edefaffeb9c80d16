use Rattle.s66_views.proofs.Labels.{bytes-characters}
use Rattle.s66_views.proofs.json_lines.laws.bytes_law.Goals as goal

pub returns : goal.returns
returns c = bytes-characters
