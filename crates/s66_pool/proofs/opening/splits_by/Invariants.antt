use Rattle.std.proofs.Common.{◌≡◌, ◌+◌, drop}
use Rattle.s66_pool.proofs.Spending.{spent_in}
use Rattle.s66_pool.proofs.opening.splits_by.Given as goal

abbrev pub invariant-loop-entry : goal.invariant-loop-entry
invariant-loop-entry l =
    l.splits + spent_in l.ledger.problem l.w (drop l.entry-index l.entry-items) ≡ spent_in l.ledger.problem l.w l.entry-items
