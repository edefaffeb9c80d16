use Rattle.std.proofs.Common.{◌∙◌, ap, subst, sym, ◌≤◌}
use Rattle.s66_isa.specs.{tally}
use Rattle.s66_cert.specs.{SPLIT_LIMIT}
use Rattle.s66_reasons.specs.{is_split}
use Rattle.s66_reasons.proofs.Splits.{few-splits, stored-splits}
use Rattle.s66_reasons.proofs.tree.splits.Goals as goal

pub count_splits-requires : goal.count_splits-requires
count_splits-requires c = subst (λ lines. tally is_split lines ≤ SPLIT_LIMIT) (sym c.tree.ensures.value) (few-splits c.args.document.now c.tree.ensures.whole)

pub returns : goal.returns
returns c = c.count_splits.ensures ∙ ap (tally is_split) c.tree.ensures.value ∙ stored-splits c.args.document.now c.tree.ensures.whole
