use Rattle.std.proofs.Common.{◌≡◌, ◌++◌, drop}
use Rattle.s66_source.specs.{indented_lines, indents_by}
use Rattle.s66_source.proofs.block_text.push_indented.Given as goal

-- the lines so far, and then those of the other numbers, are those of all
abbrev pub invariant-loop-number : goal.invariant-loop-number
invariant-loop-number l =
    l.out.items ++ indented_lines (indents_by l.columns l.lines l.block) l.block l.label (drop l.number-index l.order) ≡ l.fn.out.items ++ indented_lines (indents_by l.columns l.lines l.block) l.block l.block.label l.order
