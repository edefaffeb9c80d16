use Rattle.std.proofs.Common.{◌≡◌, ◌++◌, [], drop}
use Rattle.s66_program.specs.{entries_from}
use Rattle.s66_program.proofs.entries.entries_among.Given as goal

abbrev pub invariant-loop-part : goal.invariant-loop-part
invariant-loop-part l = l.entries.items ++ entries_from l.last (drop l.part-index l.parts) ≡ entries_from [] l.parts
