use Rattle.s66_moments.proofs.InUse.{no_worse-below, next-comes, clamped-in_use}
use Rattle.s66_moments.proofs.lines.in_use_law.Goals as goal

pub returns : goal.returns
returns c =
    record { no_worse = no_worse-below; next = next-comes; clamped = clamped-in_use }
