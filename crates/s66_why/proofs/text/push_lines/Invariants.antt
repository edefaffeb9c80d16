use Rattle.std.proofs.Common.{◌≡◌, ◌++◌, drop, flat_map}
use Rattle.s66_why.specs.{stretch_line}
use Rattle.s66_why.proofs.text.push_lines.Given as goal

abbrev pub invariant-loop-stretch : goal.invariant-loop-stretch
invariant-loop-stretch l =
    l.out.items ++ flat_map (stretch_line l.texts l.block) (drop l.stretch-index l.waits) ≡ l.fn.out.items ++ flat_map (stretch_line l.texts l.block) l.waits
