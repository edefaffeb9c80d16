use Rattle.std.proofs.Common.{◌≡◌, drop}
use Rattle.s66_source.specs.{is_one_of, names_in}
use Rattle.s66_source.proofs.redefined.is_among.Given as goal

abbrev pub invariant-loop-name : goal.invariant-loop-name
invariant-loop-name l = is_one_of (names_in (drop l.name-index l.names)) l.word ≡ is_one_of (names_in l.names) l.word
