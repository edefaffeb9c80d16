use Rattle.std.proofs.Common.{◌≡◌, length}
use Rattle.s66_line.specs.{instrs_of}
use Rattle.s66_compare.specs.{AreWithin, paired, partners}
use Rattle.s66_compare.proofs.Pairs.{texts_from}
use Rattle.s66_compare.proofs.pairing.paired.Given as goal

-- the partners so far, and then those of the other texts, are all
abbrev pub invariant-loop-position : goal.invariant-loop-position
invariant-loop-position l = record {
  all : partners l.old l.taken.items (texts_from l.new l.position) ≡ paired l.old l.new;
  count : length l.taken.items ≡ l.position;
  within : AreWithin (length (instrs_of l.old)) l.taken.items;
}
