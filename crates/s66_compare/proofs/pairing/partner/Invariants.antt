use Rattle.std.proofs.Common.{◌≡◌, ◌+◌, ◌-◌, length}
use Rattle.s66_isa.specs.{first_that, rising}
use Rattle.s66_line.specs.{instrs_of}
use Rattle.s66_compare.specs.{is_untaken, partner}
use Rattle.s66_compare.proofs.pairing.partner.Given as goal

abbrev pub invariant-loop-position : goal.invariant-loop-position
invariant-loop-position l =
    first_that (is_untaken l.old l.taken l.text) (rising (length (instrs_of l.old) - l.position) (l.position + 1)) ≡ partner l.old l.taken l.text
