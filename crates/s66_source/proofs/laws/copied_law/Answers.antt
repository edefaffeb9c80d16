use Rattle.std.proofs.Common.{◌∙◌, ap, append_assoc, ◌∷◌, []}
use Rattle.s66_line.specs.{lines_of}
use Rattle.s66_source.proofs.ReadBack.{class_of-body, lines_of-line}
use Rattle.s66_source.proofs.laws.copied_law.Goals as goal

pub returns : goal.returns
returns c = record { cut = λ line text h. ap lines_of (append_assoc line (10 ∷ []) text) ∙ lines_of-line line text h; class = class_of-body }
