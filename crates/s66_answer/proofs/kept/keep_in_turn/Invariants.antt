use Rattle.std.proofs.Common.{◌≤◌}
use Rattle.s66_answer.proofs.KeptParts.{GoesOnAt}
use Rattle.s66_answer.proofs.kept.keep_in_turn.Given as goal

abbrev pub invariant-loop-done : goal.invariant-loop-done
invariant-loop-done g l =
    let s = l.searches in
    record {
      kept : GoesOnAt (g.K.Keep.part s.what.now s.strategy s.profile.now) s.strategy s.profile.now s.before s.blocks.now l.done l.parts.items l.bounded;
      few : l.bounded ≤ l.done;
    }
