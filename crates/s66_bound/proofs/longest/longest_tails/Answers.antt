use Rattle.std.proofs.Common.{arith}
use Rattle.s66_bound.proofs.longest.longest_tails.Goals as goal

pub longest_from-requires-clause-known : goal.longest_from-requires-clause-known
longest_from-requires-clause-known c =
    let (b, are) = c.requires.known in
    (b, are, λ n lt high. c.loop-place.invariant.known b are n (omega (arith, lt)) high)
