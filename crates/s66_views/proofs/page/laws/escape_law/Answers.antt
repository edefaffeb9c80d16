use Rattle.s66_views.proofs.Escaping.{harmless-lines, harmless-text, reference-byte}
use Rattle.s66_views.proofs.page.laws.escape_law.Goals as goal

pub returns : goal.returns
returns c = record { harmless = harmless-text; lines = harmless-lines; references = reference-byte }
