use Rattle.s66_ledger.specs.{no_stored}
use Rattle.s66_ledger.proofs.NodePrefixes.{get_or-any, prefix-below, prefix-root}
use Rattle.s66_ledger.proofs.path.up.Goals as goal

pub returns-then-parent-i-clause-prefix : goal.returns-then-parent-i-clause-prefix
returns-then-parent-i-clause-prefix c =
    prefix-below c.args.nodes.now c.args.i _ no_stored c.requires.some c.requires.within (get_or-any c.args.nodes.now c.args.i _ no_stored (λ x. x.parent) c.requires.within) c.if-parent-i.true

pub returns-else-parent-i-clause-prefix : goal.returns-else-parent-i-clause-prefix
returns-else-parent-i-clause-prefix c =
    prefix-root c.args.nodes.now c.args.i _ no_stored c.requires.some c.requires.within (get_or-any c.args.nodes.now c.args.i _ no_stored (λ x. x.parent) c.requires.within) c.if-parent-i.false
