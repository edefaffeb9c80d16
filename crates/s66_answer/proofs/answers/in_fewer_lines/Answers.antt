use Rattle.std.proofs.Common.{arith, inl}
use Rattle.s66_answer.proofs.answers.in_fewer_lines.Goals as goal

pub returns-then-bound-time : goal.returns-then-bound-time
returns-then-bound-time c = λ strategy deep for beside. c.by_search.ensures strategy c.args.profile.now c.args.block.now for beside

pub returns : goal.returns
returns c =
    λ strategy deep for beside.
    c.shown_or_searched.ensures strategy deep for beside (inl (omega (arith, c.if-bound-time.false, c.bound.ensures, c.time.ensures.value), omega (arith, c.requires.looked.splits, c.requires.most, for.2)))
