use Rattle.std.proofs.Common.{arith}
use Rattle.s66_answer.proofs.answers.by_search.Goals as goal

pub returns : goal.returns
returns c =
    λ strategy p block for beside.
    let all = c.saturating_add-splits.ensures in
    let own = c.splits.ensures in
    (for, (omega (arith, all, own.value, own.few), omega (arith, all, own.value, beside.0), λ plain. omega (arith, all, own.value, own.few, beside.1 plain)))
