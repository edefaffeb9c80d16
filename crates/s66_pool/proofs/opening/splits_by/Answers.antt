use Rattle.std.proofs.Common.{ap, arith, ◌∙◌}
use Rattle.std.proofs.lemmas.List.{drop_all}
use Rattle.s66_pool.proofs.Spending.{spent_in, next-spent, account-spent, spent-within}
use Rattle.s66_pool.proofs.opening.splits_by.Goals as goal

pub overflow_add-splits : goal.overflow_add-splits
overflow_add-splits c =
    let l = c.args.ledger.now in
    omega (
      arith,
      c.loop-entry.invariant,
      next-spent l.problem c.args.w c.deref-entry-items.result.now c.loop-entry.entry-index _ c.splits_in-splits.result c.loop-entry-test.true (c.splits_in-splits.ensures l.problem),
      ap (spent_in l.problem c.args.w) (c.deref-entry-items.ensures.value ∙ c.history.ensures.entries),
      spent-within l c.args.w c.requires.0 c.requires.1,
      c.splits-spent.ensures.accounts,
      c.splits-spent.ensures.value,
    )

pub loop-entry-preserved : goal.loop-entry-preserved
loop-entry-preserved c =
    let l = c.args.ledger.now in
    omega (
      arith,
      c.loop-entry.invariant,
      next-spent l.problem c.args.w c.deref-entry-items.result.now c.loop-entry.entry-index _ c.splits_in-splits.result c.loop-entry-test.true (c.splits_in-splits.ensures l.problem),
    )

pub returns : goal.returns
returns c =
    let l = c.args.ledger.now in
    omega (
      arith,
      c.loop-entry.invariant,
      ap (spent_in l.problem c.args.w) (drop_all c.loop-entry.entry-index c.deref-entry-items.result.now c.loop-entry-test.false),
      ap (spent_in l.problem c.args.w) (c.deref-entry-items.ensures.value ∙ c.history.ensures.entries),
      account-spent l c.args.w c.requires.0 c.requires.1,
    )
