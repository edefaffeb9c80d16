use Rattle.std.proofs.Common.{◌≡◌, drop, max}
use Rattle.s66_isa.specs.{greatest}
use Rattle.s66_model.specs.{next}
use Rattle.s66_model.proofs.HeadByRegisters.{done_for}
use Rattle.s66_time.specs.{problem_of, points}
use Rattle.s66_bound.proofs.printed.head_of.Given as goal

abbrev pub invariant-loop-register : goal.invariant-loop-register
invariant-loop-register l =
    max l.head (greatest (done_for (problem_of l.clock) l.clock.numbers l.number) (drop l.register-index l.tables.written.items))
    ≡ max (next (points l.clock)) (greatest (done_for (problem_of l.clock) l.clock.numbers l.number) l.tables.written.items)
