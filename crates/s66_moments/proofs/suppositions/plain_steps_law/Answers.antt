use Rattle.s66_moments.proofs.SupposedLines.{plain-taken, plain-known, plain-lines}
use Rattle.s66_moments.proofs.suppositions.plain_steps_law.Goals as goal

pub returns : goal.returns
returns c =
    record { taken = plain-taken; known = plain-known; shown = plain-lines }
