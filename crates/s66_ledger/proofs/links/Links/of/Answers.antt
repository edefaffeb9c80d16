use Rattle.std.proofs.Common.{arith, ◌∙◌, ◌<◌, length}
use Rattle.s66_ledger.proofs.Chained.{links-next}
use Rattle.s66_ledger.proofs.NodePrefixes.{get_or-any}
use Rattle.s66_ledger.proofs.links.Links.of.Goals as goal

pub loop-node-preserved : goal.loop-node-preserved
loop-node-preserved c =
    let l = c.loop-node in
    let within : l.node < length c.args.nodes.now = omega (arith, c.loop-node-test.true) in
    let above : c.up-parent.result < length c.args.nodes.now = omega (arith, c.up-parent.ensures.before, within) in
    links-next c.args.nodes.now l.last.items l.before.items l.node c.up-parent.result c.index.result.now l.invariant within above c.up-parent.ensures.parent
    (c.index.ensures ∙ get_or-any l.last.items c.up-parent.result c.index.result.now 0 (λ n. n) (omega (arith, above, l.invariant.lasts)))
