use Rattle.std.proofs.Common.{◌≡◌, max, take}
use Rattle.s66_isa.specs.{greatest}
use Rattle.s66_model.specs.{next, done_of}
use Rattle.s66_time.specs.{points}
use Rattle.s66_bound.proofs.printed.latest_head.Given as goal

abbrev pub invariant-loop-register : goal.invariant-loop-register
invariant-loop-register l =
    l.latest ≡ max (next (points l.clock)) (greatest (done_of (points l.clock)) (take l.register-index l.register-items))
