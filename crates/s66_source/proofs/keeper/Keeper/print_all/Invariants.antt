use Rattle.std.proofs.Common.{◌++◌, drop, map}
use Rattle.s66_source.specs.{whole_text, kept_line, classed_lines}
use Rattle.s66_source.proofs.KeptLines.{IsPrinting}
use Rattle.s66_source.proofs.keeper.Keeper.print_all.Given as goal

-- the text so far, and then that of the lines that are left, is that of all
abbrev pub invariant-loop-line : goal.invariant-loop-line
invariant-loop-line l = IsPrinting l.self (drop l.line-index (map kept_line (classed_lines l.self.source))) l.number l.begun l.out.items (l.fn.out.items ++ whole_text l.self)
