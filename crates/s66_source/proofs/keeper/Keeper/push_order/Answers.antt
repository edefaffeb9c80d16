use Rattle.std.proofs.Common.{sym}
use Rattle.s66_source.proofs.KeptLines.{indents-kept}
use Rattle.s66_source.proofs.keeper.Keeper.push_order.Goals as goal

pub returns : goal.returns
returns c = rw (sym (indents-kept c.args.self.now.source c.args.self.now.columns c.args.block.now), sym c.lines.ensures, sym c.columns.ensures) c.push_indented.ensures
