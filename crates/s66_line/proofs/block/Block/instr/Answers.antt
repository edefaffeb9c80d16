use Rattle.std.proofs.Common.{◌∙◌, ap}
use Rattle.s66_line.specs.{Entry}
use Rattle.s66_line.proofs.BlockEntries.{instr_at-entry}
use Rattle.s66_line.proofs.block.Block.instr.Goals as goal

pub returns : goal.returns
returns c = ap (λ (e : Entry). e.instr) c.behind-self.view_is ∙ instr_at-entry c.args.self.now c.args.number _ c.entry.ensures
