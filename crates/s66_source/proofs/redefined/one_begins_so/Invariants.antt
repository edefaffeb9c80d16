use Rattle.std.proofs.Common.{◌≡◌, drop}
use Rattle.s66_source.specs.{names_in, one_begins_so}
use Rattle.s66_source.proofs.redefined.one_begins_so.Given as goal

abbrev pub invariant-loop-name : goal.invariant-loop-name
invariant-loop-name l = one_begins_so l.first l.second (names_in (drop l.name-index l.names)) ≡ one_begins_so l.first l.second (names_in l.names)
