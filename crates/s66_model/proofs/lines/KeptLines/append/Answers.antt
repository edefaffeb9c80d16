-- Appending to the lists appends the line.
use Rattle.std.proofs.Common.{sym, rules}
use Rattle.s66_model.proofs.Marks.{kept-append, vertices-append}
use Rattle.s66_model.proofs.lines.KeptLines.append.Goals as goal

pub invariant_of-self-2 : goal.invariant_of-self-2
invariant_of-self-2 c =
    rw (c.push_reserved.ensures.items, c.push_reserved-2.ensures.items, c.in_ok-reserve.ensures.items, c.in_ok-reserve-2.ensures.items, c.in_ok-extend_from_slice.ensures.items)
    (kept-append _ _ _ c.args.mark c.args.numbers.now c.len-begin.result c.self.invariant c.requires (search rules))

pub returns-clause-pushed : goal.returns-clause-pushed
returns-clause-pushed c =
    rw (sym c.self.view_is)
    (rw c.push_reserved.ensures.items (rw c.in_ok-reserve.ensures.items (rw c.in_ok-extend_from_slice.ensures.items (vertices-append _ _ c.args.mark c.args.numbers.now c.self.invariant.counted))))
