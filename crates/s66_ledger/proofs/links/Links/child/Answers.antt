use Rattle.std.proofs.Common.{arith, ◌∙◌}
use Rattle.s66_ledger.specs.{no_stored}
use Rattle.s66_ledger.proofs.Chained.{last-past, next-past, next-below, child-here}
use Rattle.s66_ledger.proofs.NodePrefixes.{get_or-any}
use Rattle.s66_ledger.proofs.links.Links.child.Goals as goal

pub loop-child-init : goal.loop-child-init
loop-child-init c =
    let links = c.requires.links in
    last-past c.args.nodes.now _ _ c.args.parent c.args.number c.index.result.now links c.requires.parent c.requires.some
    (c.index.ensures ∙ get_or-any c.args.self.now.last.items c.args.parent c.index.result.now 0 (λ n. n) (omega (arith, c.requires.parent, links.lasts)))

pub loop-child-smaller : goal.loop-child-smaller
loop-child-smaller c =
    let l = c.loop-child in
    let links = c.requires.links in
    next-below c.args.nodes.now _ _ c.args.parent c.args.number l.child c.index-in-loop-child.result.now links c.requires.some l.invariant
    (λ e. c.loop-child-test.true (get_or-any c.args.nodes.now l.child _ no_stored (λ x. x.number) l.invariant.within ∙ e))
    (c.index-in-loop-child.ensures ∙ get_or-any c.args.self.now.before.items l.child c.index-in-loop-child.result.now 0 (λ n. n) (omega (arith, l.invariant.within, links.siblings)))

pub loop-child-preserved : goal.loop-child-preserved
loop-child-preserved c =
    let l = c.loop-child in
    let links = c.requires.links in
    next-past c.args.nodes.now _ _ c.args.parent c.args.number l.child c.index-in-loop-child.result.now links c.requires.some l.invariant
    (λ e. c.loop-child-test.true (get_or-any c.args.nodes.now l.child _ no_stored (λ x. x.number) l.invariant.within ∙ e))
    (c.index-in-loop-child.ensures ∙ get_or-any c.args.self.now.before.items l.child c.index-in-loop-child.result.now 0 (λ n. n) (omega (arith, l.invariant.within, links.siblings)))

pub returns : goal.returns
returns c =
    let l = c.loop-child in
    child-here c.args.nodes.now _ _ c.args.parent c.args.number l.child 0 c.requires.links c.requires.some l.invariant (get_or-any c.args.nodes.now l.child no_stored _ (λ x. x.number) l.invariant.within ∙ c.loop-child-test.false)
