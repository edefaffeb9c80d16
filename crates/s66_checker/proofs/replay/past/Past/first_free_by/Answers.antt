use Rattle.std.proofs.Common.{arith}
use Rattle.s66_checker.proofs.WordsOfPoints.{free-later}
use Rattle.s66_checker.proofs.replay.past.Past.first_free_by.Goals as goal

pub loop-low-preserved : goal.loop-low-preserved
loop-low-preserved c =
    let loop = c.loop-low.invariant in
    record {
      late = omega arith;
      order = omega arith;
      free = loop.free;
      least = λ u ge few. free-later c.args.kind c.args.self.now c.args.copies _ u (omega (arith, c.if-busy_count-copies.false, c.busy_count.ensures)) few;
    }
