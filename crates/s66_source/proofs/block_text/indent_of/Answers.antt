use Rattle.std.proofs.Common.{◌∙◌, ap}
use Rattle.s66_source.specs.{indent, bytes_at}
use Rattle.s66_source.proofs.KeptLines.{indent-at}
use Rattle.s66_source.proofs.block_text.indent_of.Goals as goal

pub returns : goal.returns
returns c =
    c.indent.ensures
    ∙ ap (indent c.args.columns) (c.bytes_at.ensures ∙ ap (bytes_at c.args.lines.now) c.line.ensures)
    ∙ indent-at c.args.columns c.args.lines.now c.args.block.now.entries c.args.block.now.label c.args.number c.requires.first c.requires.last
