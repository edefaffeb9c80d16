use Rattle.std.proofs.Common.{◌≡◌, ◌++◌, take}
use Rattle.s66_views.specs.{escaped_lines}
use Rattle.s66_views.proofs.page.escape.push_escaped_lines.Given as goal

abbrev pub invariant-loop-byte : goal.invariant-loop-byte
invariant-loop-byte l = l.out.items ≡ l.fn.out.items ++ escaped_lines (take l.byte-index l.text)
